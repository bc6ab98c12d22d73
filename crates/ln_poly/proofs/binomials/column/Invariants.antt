use Rattle.ln_poly.specs.Derivative.{IsColumn}
use Rattle.ln_poly.proofs.binomials.column.Given as goal

abbrev pub invariant-raises : goal.invariant-raises
invariant-raises l = IsColumn l.c l.k l.m
