-- What a name in an expression stands for, and when it is unknown.
use Rattle.std.proofs.Common.{◌≡◌, ℕ, ◌||◌, ◌&&◌, Bool, true, false, nat_lt, List, [], ◌∷◌, length, Some, None, refl, ap, sym, ◌∙◌, is_some}
use Rattle.std.specs.List.{list_any, find, position_from}
use Rattle.std.proofs.lemmas.Bool.{ne_eqb}
use Rattle.ln_syntax.specs.Raw.{Span, text, same}
use Rattle.ln_names.specs.Rules.{RawArg, Scope, NameNode, InputCoord, has_let, has_param_arg, is_site_arg, coords_at, fault_at}
use Rattle.ln_names.specs.declared.faults.Fault.TheVariants.{Named}
use Rattle.ln_names.specs.declared.faults.NameWhat.TheVariants.{Unknown}
use Rattle.ln_names.specs.declared.nodes.What.TheVariants.{Let, Input}
use Rattle.ln_names.specs.declared.resolve.ArgKind.TheVariants.{Site, Param}
use Rattle.ln_names.specs.Nodes.{named, input_of}
use Rattle.ln_names.specs.Resolve.{is_arg, let_place, arg_place, coord_place}
use Rattle.ln_names.proofs.Lists.{place_is_some}

-- where a place is found, some element passes
some_passes : {A : Type 0} (p : A → Bool) (xs : List A) (j : ℕ) → position_from p 0 xs ≡ Some j → list_any p xs ≡ true
some_passes p xs j h = sym (place_is_some p 0 xs) ∙ ap is_some h

-- and where none is, none does
none_passes : {A : Type 0} (p : A → Bool) (xs : List A) → position_from p 0 xs ≡ None → list_any p xs ≡ false
none_passes p xs h = sym (place_is_some p 0 xs) ∙ ap is_some h

none_found_by : {A : Type 0} (p : A → Bool) (x : A) (xs : List A) (b : Bool) → p x ≡ b → (b || list_any p xs) ≡ false
    → (list_any p xs ≡ false → find p xs ≡ None) → find p (x ∷ xs) ≡ None
none_found_by p x xs true e h on = absurd (cc)
none_found_by p x xs false e h on = rw e (on h)

none_found : {A : Type 0} (p : A → Bool) (xs : List A) → list_any p xs ≡ false → find p xs ≡ None
none_found p [] h = refl
none_found p (x ∷ xs) h = none_found_by p x xs (p x) refl h (none_found p xs)

-- a bare name of at most 32 letters, with room for one more node
module _ (bytes : List ℕ) (s : Scope) (n : ℕ) (at : Span) (short : nat_lt 32 (length (text bytes at)) ≡ false) (room : n ≡ 2048 → ⊥) where
  -- it is a let's name
  pub name_let : (j : ℕ) → let_place bytes s.lets at ≡ Some j → (fault_at bytes (NameNode n s) at ≡ None) × (Let j ≡ named bytes s at)
  name_let j h =
      let k : has_let bytes s.lets at ≡ true = some_passes (λ l. same bytes l.name at) s.lets j h in
      let r = ne_eqb n 2048 room in
      (rw (short, r, k) refl, rw h refl)

  -- or a param argument's
  pub name_param : (a : ℕ) → let_place bytes s.lets at ≡ None → arg_place bytes (Some Param) s.args at ≡ Some a
      → (fault_at bytes (NameNode n s) at ≡ None) × (Input a 0 ≡ named bytes s at)
  name_param a h i =
      let k : has_let bytes s.lets at ≡ false = none_passes (λ l. same bytes l.name at) s.lets h in
      let p : has_param_arg bytes s.args at ≡ true = some_passes (λ a. is_arg (Some Param) a && same bytes a.name at) s.args a i in
      let r = ne_eqb n 2048 room in
      (rw (short, r, k, p) refl, rw (h, i) refl)

  -- or unknown
  pub name_unknown : let_place bytes s.lets at ≡ None → arg_place bytes (Some Param) s.args at ≡ None
      → fault_at bytes (NameNode n s) at ≡ Some (Named Unknown)
  name_unknown h i =
      let k : has_let bytes s.lets at ≡ false = none_passes (λ l. same bytes l.name at) s.lets h in
      let p : has_param_arg bytes s.args at ≡ false = none_passes (λ a. is_arg (Some Param) a && same bytes a.name at) s.args i in
      let r = ne_eqb n 2048 room in
      rw (short, r, k, p) refl

module _ (bytes : List ℕ) (s : Scope) (at x : Span) (short : nat_lt 32 (length (text bytes x)) ≡ false) where
  -- a coordinate of an argument that isn't there
  pub no_arg : arg_place bytes (Some Site) s.args at ≡ None → fault_at bytes (InputCoord s at) x ≡ Some (Named Unknown)
  no_arg h =
      let p = λ (a : RawArg). is_site_arg a && same bytes a.name at in
      let f : find p s.args ≡ None = none_found p s.args (none_passes p s.args h) in
      rw (short, f) refl

  -- a coordinate that the site type of the argument has
  pub coord_found : (a c : ℕ) → arg_place bytes (Some Site) s.args at ≡ Some a → coord_place bytes (coords_at bytes s at) x ≡ Some c
      → (fault_at bytes (InputCoord s at) x ≡ None) × (Input a c ≡ input_of bytes s at x)
  coord_found a c h i =
      let k = some_passes (λ c. same bytes c.name x) (coords_at bytes s at) c i in
      (rw (short, k) refl, rw (h, i) refl)

  -- and one that it hasn't
  pub no_coord : coord_place bytes (coords_at bytes s at) x ≡ None → fault_at bytes (InputCoord s at) x ≡ Some (Named Unknown)
  no_coord h = let k = none_passes (λ c. same bytes c.name x) (coords_at bytes s at) h in rw (short, k) refl
