use Rattle.ln_base.proofs.DecimalLemmas.{value_of_text, text_is_plain, text_of_value, text_is_integer}
use Rattle.ln_base.proofs.decimal.written_numbers_read_back.Goals as goal

pub returns-clause-natural : goal.returns-clause-natural
returns-clause-natural c = value_of_text

pub returns-clause-plain : goal.returns-clause-plain
returns-clause-plain c = text_is_plain

pub returns-clause-only : goal.returns-clause-only
returns-clause-only c = text_of_value

pub returns-clause-integer : goal.returns-clause-integer
returns-clause-integer c = text_is_integer
