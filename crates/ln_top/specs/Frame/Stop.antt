-- Defines why a command stops before its work: an end that is required with its line, or a fault of reading, or out of memory.
use Rattle.std.specs.Prelude.{ℕ, List, ◌++◌, codes, decimal, Option, Some, None}
use Rattle.ln_base.specs.Outside.{refused}
use Rattle.ln_base.specs.declared.span.Span.{Span}
use Rattle.ln_compile.specs.declared.refusal.Refusal.{Refusal}
use Rattle.ln_compile.specs.Refused.{span_of, word_of}
use Rattle.ln_top.specs.declared.frame.status.End.{End}
use Rattle.ln_top.specs.declared.frame.status.End.TheVariants as end
use Rattle.ln_top.specs.declared.frame.stop.Place.{Place}
use Rattle.ln_top.specs.declared.frame.stop.Why.{Why}
use Rattle.ln_top.specs.declared.frame.stop.Why.TheVariants.{Usage, TooLong, Refused, Stages, NoPredicate, Header, Shape, Many, Point}
use Rattle.ln_top.specs.declared.frame.stop.Stop.{Stop}
use Rattle.ln_top.specs.declared.frame.stop.Stop.TheVariants.{Tell, Memory}
use Rattle.ln_top.specs.Frame.Said.{Said, error_line}
use Rattle.ln_top.specs.Frame.Source.{place_at}

-- `error KIND LINE:COL`
abbrev pub placed_text : List ℕ → Place → List ℕ
placed_text word place = codes "error " ++ word ++ codes " " ++ decimal place.line ++ codes ":" ++ decimal place.col

-- `error KIND LINE:COL`, where the kind is the word of this refusal
abbrev pub refusal_text : Refusal → Place → List ℕ
refusal_text r place = placed_text (word_of r) place

-- `error point N`
abbrev pub point_text : ℕ → List ℕ
point_text n = codes "error point " ++ decimal n

-- how a command ends that stops so
abbrev pub why_end : Why → End
why_end Usage = end.Usage
why_end TooLong = end.TooLong
why_end (Refused r place) = end.Refused
why_end (Stages place) = end.Refused
why_end NoPredicate = end.NoPredicate
why_end Header = end.Rows
why_end Shape = end.Shape
why_end Many = end.Many
why_end (Point n) = end.Rows

-- and its line, without its end
abbrev pub why_text : Why → List ℕ
why_text Usage = codes "error usage"
why_text TooLong = codes "error long"
why_text (Refused r place) = refusal_text r place
why_text (Stages place) = placed_text (codes "stages") place
why_text NoPredicate = codes "error predicate"
why_text Header = codes "error header"
why_text Shape = codes "error shape"
why_text Many = codes "error many"
why_text (Point n) = point_text n

-- what is said of a stop
abbrev pub said_of : Why → Said
said_of why = error_line (why_end why) (why_text why)

-- the stop for a refusal: its place is the start of its span; out of memory has none and has no line
abbrev pub stop_at : List ℕ → Refusal → Option Span → Stop
stop_at bytes r None = Memory refused
stop_at bytes r (Some at) = Tell (Refused r (place_at bytes at))

-- the stop for a refusal of a source of these bytes, at the span that the refusal has
abbrev pub stop_of : List ℕ → Refusal → Stop
stop_of bytes r = stop_at bytes r (span_of r)
