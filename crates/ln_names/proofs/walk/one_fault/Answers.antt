use Rattle.ln_names.specs.Visits.{file_visits}
use Rattle.ln_names.proofs.FirstFault.{first_of, none_of_clean}
use Rattle.ln_names.proofs.walk.one_fault.Goals as goal

pub returns : goal.returns
returns c = record {
  one = λ bytes ts is f g d e. let a = first_of bytes (file_visits ts is) f d in let b = first_of bytes (file_visits ts is) g e in cc;
  none = λ bytes ts is f d n. let a = first_of bytes (file_visits ts is) f d in let b = none_of_clean bytes (file_visits ts is) n in cc;
}
