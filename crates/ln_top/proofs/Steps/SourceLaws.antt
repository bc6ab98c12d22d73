-- Proves what a refused source stops with.
use Rattle.std.proofs.Common.{◌≡◌, inl, inr, List, ℕ, Option, Some, None, refl}
use Rattle.ln_base.specs.declared.span.Span.{Span}
use Rattle.ln_tree.specs.declared.table.Table.{Table}
use Rattle.ln_compile.specs.Accepted.{Accepted}
use Rattle.ln_compile.specs.declared.refusal.Refusal.{Refusal}
use Rattle.ln_compile.specs.Refused.{IsRefusal, IsRefusedFor, span_of}
use Rattle.ln_top.specs.declared.frame.stop.Why.TheVariants.{Refused}
use Rattle.ln_top.specs.Frame.Stop.{stop_at, stop_of}
use Rattle.ln_top.specs.Frame.Source.{view, place_at}
use Rattle.ln_top.specs.Steps.{Compiles, accepted, refused}
use Rattle.ln_top.specs.Frame.Given.{gives}
use Rattle.ln_top.specs.Frame.Carried.{Halts, tells, short}

by_span : (bytes : List ℕ) (r : Refusal) (o : Option Span) → IsRefusedFor bytes r → span_of r ≡ o
    → Halts (Compiles bytes) ⊥ (stop_at bytes r o)
by_span bytes r None f e = short
by_span bytes r (Some at) f e =
    tells (Refused r (place_at bytes at)) (refused r (place_at bytes at) (record { cause = f; at = at; span = e; start = refl }))

-- a refused source stops a command
pub refused_stop : (bytes : List ℕ) (r : Refusal) → IsRefusal bytes r → Halts (Compiles bytes) ⊥ (stop_of bytes r)
refused_stop bytes r (inl f) = by_span bytes r (span_of r) f refl
refused_stop bytes r (inr e) = rw e short

-- an accepted one is compiled
pub accepted_source : (bytes : List ℕ) (t : Table) → Accepted bytes (view t) → Compiles bytes (gives (view t))
accepted_source bytes t a = accepted (view t) (record { table = t; is = refl; accepted = a })
