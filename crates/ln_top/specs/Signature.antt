-- Defines the signatures of the commands, each by its own file.
use Rattle.std.specs.Prelude.{ℕ, List, [], ◌∷◌}
use Rattle.ln_tree.specs.Table.{PredOf}
use Rattle.ln_top.specs.declared.frame.stop.Why.{Why}
use Rattle.ln_top.specs.declared.words.Command.{Command}
use Rattle.ln_top.specs.declared.words.Command.TheVariants as command
use Rattle.ln_top.specs.Texts.Check.{check_signature}
use Rattle.ln_top.specs.Texts.Listing.{list_signature}
use Rattle.ln_top.specs.Texts.Emit.{emit_signature}
use Rattle.ln_top.specs.Judges.Verify.{verify_signature}
use Rattle.ln_top.specs.Signs.Run.{graded_signature, run_signature}
use Rattle.ln_top.specs.Signs.Product.{product_signature}
use Rattle.ln_top.specs.Judges.Edges.{edges_signature}
use Rattle.ln_top.specs.Signs.Explain.{explain_signature}
use Rattle.ln_top.specs.Judges.Audit.{audit_signature}
use Rattle.ln_top.specs.Signs.Gen.{gen_signature}
use Rattle.ln_top.specs.Frame.Signature.{AreAsked, Form, Signature, objects}

-- `check FILE`, `list FILE`, `emit FILE`, `verify FILE LISTING`, `run FILE NAME ROWS`, `graded FILE NAME ROWS`, `edges FILE NAME
-- POINTS`, `explain FILE NAME ROWS`, `audit FILE NAME ROWS TRACE`, `gen FILE NAME SEED COUNT`, `product FILE NAME NAME.. ROWS`
abbrev pub signature_of : Command → Signature
signature_of command.Check = check_signature
signature_of command.List = list_signature
signature_of command.Emit = emit_signature
signature_of command.Verify = verify_signature
signature_of command.Run = run_signature
signature_of command.Graded = graded_signature
signature_of command.Product = product_signature
signature_of command.Edges = edges_signature
signature_of command.Explain = explain_signature
signature_of command.Audit = audit_signature
signature_of (command.Gen seed count) = gen_signature

-- the commands that their first word alone names; that of `gen` has numbers of its own
abbrev pub plain_commands : List Command
plain_commands =
    command.Check ∷ command.Run ∷ command.Product ∷ command.List ∷ command.Emit ∷ command.Verify ∷ command.Graded ∷ command.Edges
    ∷ command.Explain ∷ command.Audit ∷ []

-- how many names and files a command takes
abbrev pub form : Command → Form
form c = (signature_of c).form

-- what it asks of its named predicates
abbrev pub Asks : Command → List PredOf → Type 0
Asks c = AreAsked (signature_of c).suits

-- how it stops where they don't suit it
abbrev pub objection : Command → List ℕ → List PredOf → Why
objection c = objects (signature_of c).suits
