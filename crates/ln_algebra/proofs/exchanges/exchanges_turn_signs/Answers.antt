use Rattle.ln_algebra.proofs.Exchanging.Values.{coefficients-turn}
use Rattle.ln_algebra.proofs.Exchanging.Signs.{before-exchanged, first-exchanged, sign-turned}
use Rattle.ln_algebra.proofs.exchanges.exchanges_turn_signs.Goals as goal

pub returns-clause-coefficients : goal.returns-clause-coefficients
returns-clause-coefficients c = coefficients-turn

pub returns-clause-orders : goal.returns-clause-orders
returns-clause-orders c = λ rank n partner was now a b ex. before-exchanged n partner was now ex rank a b

pub returns-clause-firsts : goal.returns-clause-firsts
returns-clause-firsts c = λ rank n partner was now x y s e a ex xy i t. first-exchanged rank n partner was now x y s e ex xy i t a

pub returns-clause-signs : goal.returns-clause-signs
returns-clause-signs c = sign-turned
