use Rattle.ln_lex.proofs.OneAnswer.{one_list, one_fault, one_limit, list_or_fault, list_or_limit, fault_or_limit}
use Rattle.ln_lex.proofs.scan.one_answer.Goals as goal

pub returns-clause-one_list : goal.returns-clause-one_list
returns-clause-one_list c = one_list

pub returns-clause-one_fault : goal.returns-clause-one_fault
returns-clause-one_fault c = one_fault

pub returns-clause-one_limit : goal.returns-clause-one_limit
returns-clause-one_limit c = one_limit

pub returns-clause-list_or_fault : goal.returns-clause-list_or_fault
returns-clause-list_or_fault c = list_or_fault

pub returns-clause-list_or_limit : goal.returns-clause-list_or_limit
returns-clause-list_or_limit c = list_or_limit

pub returns-clause-fault_or_limit : goal.returns-clause-fault_or_limit
returns-clause-fault_or_limit c = fault_or_limit
