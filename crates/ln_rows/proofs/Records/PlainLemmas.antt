-- Fields that are plain numbers, in csv's machine.
use Rattle.std.proofs.Common.{◌≡◌, ◌≢◌, ℕ, zero, suc, ◌+◌, ◌-◌, ◌*◌, ◌^◌, ◌<◌, ◌≤◌, nat_lt, Bool, true, false, ◌&&◌, List, [], ◌∷◌, ◌++◌}
use Rattle.std.proofs.Common.{length, take, drop, get_or, ℤ, pos, neg_ℤ, Option, Some, None, Ok, refl, ap, sym, ◌∙◌, subst, arith, cond}
use Rattle.std.proofs.Common.{inl, inr, append_assoc, ne_eqb, lt-ltb, true≢false}
use Rattle.std.specs.Prelude.{◌||◌, ◌==◌, ◌⊎◌, option_map, IfSome}
use Rattle.std.specs.List.{list_all}
use Rattle.std.specs.Char.{is_ascii_digit}
use Rattle.std.proofs.lemmas.List.{append-nil, take_more, take_rest, length-take, take-append-drop}
use Rattle.std.proofs.lemmas.List.Folds.{list_all_more}
use Rattle.std.proofs.Math.Nat.{pow-le-pow_right}
use Rattle.csv.specs.Machine.{next_record, step}
use Rattle.csv.specs.Reading.{default_config}
use Rattle.csv.specs.declared.parser.State.{State}
use Rattle.csv.specs.declared.parser.State.TheVariants as st
use Rattle.csv.specs.declared.parser.Action.{Action}
use Rattle.csv.specs.declared.parser.Action.TheVariants as act
use Rattle.ln_base.specs.Decimal.{is_digits, decimal_value, integer_value}
use Rattle.ln_base.proofs.DecimalLemmas.{digits_alone, value_behind, value_below}
use Rattle.ln_rows.specs.Left.{first_of, IsBetween}
use Rattle.ln_rows.specs.Number.{within}
use Rattle.ln_rows.specs.Plain.{HasDigits, HasSigned, IsInner, AreInner, HasNumber, PastFeed, PastEnd}
use Rattle.ln_rows.proofs.Records.FirstLemmas.{past_feed, past_return}
use Rattle.ln_rows.proofs.Records.MachineLemmas.{moves, comes_out, at_end}

-- a state in which a field begins
abbrev pub IsFresh : State → Type 0
IsFresh s = (s ≡ st.StartRecord) ⊎ (s ≡ st.StartField)

-- a state and an action
abbrev does : State → Action → State × Action
does s a = (s, a)

-- an inner byte joins its field
copies : (comma feed_ return_ : Bool) (t : State) → comma ≡ false → feed_ ≡ false → return_ ≡ false
    → cond comma (does st.StartField act.EndField) (cond (return_ || feed_) (does t act.EndRecord) (does st.InField act.Copy)) ≡ (does st.InField act.Copy)
copies false false false t e f g = refl
copies true y z t e f g = absurd (true≢false e)
copies false true z t e f g = absurd (true≢false f)
copies false false true t e f g = absurd (true≢false g)

inner_step : (b : ℕ) → IsInner b → step default_config st.InField b ≡ (does st.InField act.Copy)
inner_step b h = copies (b == 44) (b == 10) (b == 13) _ (ne_eqb b 44 h.comma) (ne_eqb b 10 h.feed) (ne_eqb b 13 h.return_)

begins_copy : (comma quote feed_ return_ : Bool) (t : State) → comma ≡ false → quote ≡ false → feed_ ≡ false → return_ ≡ false
    → cond (return_ || feed_) (does st.StartRecord act.Skip) (cond quote (does st.InQuoted act.Skip)
    (cond comma (does st.StartField act.EndField) (cond (return_ || feed_) (does t act.EndRecord) (does st.InField act.Copy)))) ≡ (does st.InField act.Copy)
begins_copy false false false false t e f g h = refl
begins_copy true q y z t e f g h = absurd (true≢false e)
begins_copy false true y z t e f g h = absurd (true≢false f)
begins_copy false false true z t e f g h = absurd (true≢false g)
begins_copy false false false true t e f g h = absurd (true≢false h)

record_step : (b : ℕ) → IsInner b → step default_config st.StartRecord b ≡ (does st.InField act.Copy)
record_step b h = begins_copy (b == 44) (b == 34) (b == 10) (b == 13) _ (ne_eqb b 44 h.comma) (ne_eqb b 34 h.quote) (ne_eqb b 10 h.feed) (ne_eqb b 13 h.return_)

field_copy : (comma quote feed_ return_ : Bool) (t : State) → comma ≡ false → quote ≡ false → feed_ ≡ false → return_ ≡ false
    → cond quote (does st.InQuoted act.Skip)
    (cond comma (does st.StartField act.EndField) (cond (return_ || feed_) (does t act.EndRecord) (does st.InField act.Copy))) ≡ (does st.InField act.Copy)
field_copy false false false false t e f g h = refl
field_copy true q y z t e f g h = absurd (true≢false e)
field_copy false true y z t e f g h = absurd (true≢false f)
field_copy false false true z t e f g h = absurd (true≢false g)
field_copy false false false true t e f g h = absurd (true≢false h)

field_step : (b : ℕ) → IsInner b → step default_config st.StartField b ≡ (does st.InField act.Copy)
field_step b h = field_copy (b == 44) (b == 34) (b == 10) (b == 13) _ (ne_eqb b 44 h.comma) (ne_eqb b 34 h.quote) (ne_eqb b 10 h.feed) (ne_eqb b 13 h.return_)

fresh_step : (s : State) (b : ℕ) → IsFresh s → IsInner b → step default_config s b ≡ does st.InField act.Copy
fresh_step s b (inl e) h = ap (λ (t : State). step default_config t b) e ∙ record_step b h
fresh_step s b (inr e) h = ap (λ (t : State). step default_config t b) e ∙ field_step b h

copy_goes : (s : State) (b : ℕ) (all : List (List ℕ)) (field xs : List ℕ) → step default_config s b ≡ does st.InField act.Copy
    → next_record default_config s all field (b ∷ xs) ≡ next_record default_config st.InField all (field ++ b ∷ []) xs
copy_goes s b all field xs e = moves s st.InField act.Copy b all field xs (ap (λ (p : State × Action). p.0) e) (ap (λ (p : State × Action). p.1) e) refl

inner_goes : (all : List (List ℕ)) (field bs rest : List ℕ) → AreInner bs
    → next_record default_config st.InField all field (bs ++ rest) ≡ next_record default_config st.InField all (field ++ bs) rest
inner_goes all field [] rest h = ap (λ (f : List ℕ). next_record default_config st.InField all f rest) (sym (append-nil field))
inner_goes all field (b ∷ bs) rest h =
    copy_goes st.InField b all field (bs ++ rest) (inner_step b h.0) ∙ inner_goes all (field ++ b ∷ []) bs rest h.1
    ∙ ap (λ (f : List ℕ). next_record default_config st.InField all f rest) (append_assoc field (b ∷ []) bs)

-- after a field of such bytes it is at hand
pub number_goes : (s : State) (all : List (List ℕ)) (text rest : List ℕ) (lo hi z : ℤ) → IsFresh s → (h : HasNumber text lo hi z rest)
    → next_record default_config s all [] text ≡ next_record default_config st.InField all (h.first ∷ h.others) rest
number_goes s all text rest lo hi z f h =
    ap (next_record default_config s all []) h.is ∙ copy_goes s h.first all [] (h.others ++ rest) (fresh_step s h.first f h.inner.0)
    ∙ inner_goes all (h.first ∷ []) h.others rest h.inner.1

-- a comma ends it
pub comma_goes : (all : List (List ℕ)) (field text rest : List ℕ) → text ≡ 44 ∷ rest
    → next_record default_config st.InField all field text ≡ next_record default_config st.StartField (all ++ field ∷ []) [] rest
comma_goes all field text rest e =
    ap (next_record default_config st.InField all field) e ∙ moves st.InField st.StartField act.EndField 44 all field rest refl refl refl

-- and so does the end of the record
pub record EndsWith (all : List (List ℕ)) (field text rest : List ℕ) : Type 0 where
  pub state : State
  pub between : IsBetween state
  pub ends : next_record default_config st.InField all field text ≡ Some (all ++ field ∷ [], state, rest)

-- at the end of a record, its last field and the record end
pub end_goes : (all : List (List ℕ)) (field text rest : List ℕ) → PastEnd text rest → EndsWith all field text rest
end_goes all field text rest (inl (inl e)) = record {
  state = st.StartRecord;
  between = inl refl;
  ends = ap (next_record default_config st.InField all field) e ∙ comes_out st.InField act.EndRecord 10 all field rest refl refl;
}
end_goes all field text rest (inl (inr e)) = record {
  state = st.AfterCr;
  between = inr refl;
  ends = ap (next_record default_config st.InField all field) e ∙ comes_out st.InField act.EndRecord 13 all field rest refl refl;
}
end_goes all field text rest (inr (e, f)) = record {
  state = st.StartRecord;
  between = inl refl;
  ends = ap (next_record default_config st.InField all field) e ∙ at_end st.InField all field
      ∙ ap (λ (r : List ℕ). Some (all ++ field ∷ [], st.StartRecord, r)) (sym f);
}

-- line ends before a record count for nothing
pub past_line : (text rest : List ℕ) → PastFeed text rest → first_of text ≡ first_of rest
past_line text rest (inl e) = ap first_of e ∙ past_feed rest
past_line text rest (inr e) = ap first_of e ∙ past_return rest

-- a digit is an inner byte, and so is a minus
not_digit : (b k : ℕ) → is_ascii_digit b ≡ true → is_ascii_digit k ≡ false → b ≢ k
not_digit b k h n e = true≢false (sym h ∙ ap is_ascii_digit e ∙ n)

digit_inner : (b : ℕ) → is_ascii_digit b ≡ true → IsInner b
digit_inner b h = record { comma = not_digit b 44 h refl; quote = not_digit b 34 h refl; feed = not_digit b 10 h refl; return_ = not_digit b 13 h refl }

minus_inner : IsInner 45
minus_inner = record { comma = omega arith; quote = omega arith; feed = omega arith; return_ = omega arith }

both_true : (a b : Bool) → (a && b) ≡ true → (a ≡ true) × (b ≡ true)
both_true true b h = (refl, h)
both_true false b h = absurd (true≢false (sym h))

digits_inner : (ds : List ℕ) → list_all is_ascii_digit ds ≡ true → AreInner ds
digits_inner [] h = tt
digits_inner (d ∷ ds) h = let k = both_true (is_ascii_digit d) (list_all is_ascii_digit ds) h in (digit_inner d k.0, digits_inner ds k.1)

some_digits : (d : ℕ) (ds : List ℕ) → list_all is_ascii_digit (d ∷ ds) ≡ true → is_digits (d ∷ ds) ≡ true
some_digits d ds h = ap (λ b. b && nat_lt 0 (length (d ∷ ds))) h ∙ lt-ltb 0 (length (d ∷ ds)) (omega arith)

minus_value : (d : ℕ) (ds : List ℕ) → is_digits (d ∷ ds) ≡ true → integer_value (45 ∷ d ∷ ds) ≡ Some (neg_ℤ (pos (decimal_value (d ∷ ds))))
minus_value d ds h = ap (λ b. option_map (λ n. neg_ℤ (pos n)) (cond b (Some (decimal_value (d ∷ ds))) None)) h

-- the number of one or more digits, with a minus or without
pub signed_number : (text from : List ℕ) (lo hi z : ℤ) (rest : List ℕ) → text ≡ 45 ∷ from → HasSigned true from lo hi z rest → HasNumber text lo hi z rest
signed_number text from lo hi z rest e h =
    by_digits h.digits.digits h.digits.is h.digits.all (ap (λ n. within lo hi (Some (neg_ℤ (pos n)))) (sym h.digits.value) ∙ h.says)
  where
    by_digits : (ds : List ℕ) → from ≡ ds ++ rest → list_all is_ascii_digit ds ≡ true
        → within lo hi (Some (neg_ℤ (pos (decimal_value ds)))) ≡ Ok z → HasNumber text lo hi z rest
    by_digits [] i a s = absurd (h.some (ap length (sym i)))
    by_digits (d ∷ ds) i a s = record {
      first = 45;
      others = d ∷ ds;
      is = e ∙ ap (λ (r : List ℕ). 45 ∷ r) i;
      inner = (minus_inner, digits_inner (d ∷ ds) a);
      says = ap (within lo hi) (minus_value d ds (some_digits d ds a)) ∙ s;
    }

-- the number of one or more digits without a sign
pub plain_number : (text : List ℕ) (lo hi z : ℤ) (rest : List ℕ) → HasSigned false text lo hi z rest → HasNumber text lo hi z rest
plain_number text lo hi z rest h = by_digits h.digits.digits h.digits.is h.digits.all (ap (λ n. within lo hi (Some (pos n))) (sym h.digits.value) ∙ h.says)
  where
    by_digits : (ds : List ℕ) → text ≡ ds ++ rest → list_all is_ascii_digit ds ≡ true → within lo hi (Some (pos (decimal_value ds))) ≡ Ok z
        → HasNumber text lo hi z rest
    by_digits [] i a s = absurd (h.some (ap length (sym i)))
    by_digits (d ∷ ds) i a s = record {
      first = d;
      others = ds;
      is = i;
      inner = digits_inner (d ∷ ds) a;
      says = ap (within lo hi) (digits_alone (d ∷ ds) (some_digits d ds a)) ∙ s;
    }

-- how far digits have been read
pub record Read (text : List ℕ) (most at n : ℕ) : Type 0 where
  pub within_ : at ≤ most
  pub inside : most ≤ length text
  pub few : most ≤ 18
  pub value : n ≡ decimal_value (take at text)
  pub all : list_all is_ascii_digit (take at text) ≡ true

-- before any digit
pub read_none : (text : List ℕ) (most : ℕ) → most ≤ length text → most ≤ 18 → Read text most 0 0
read_none text most a b = record { within_ = omega arith; inside = a; few = b; value = refl; all = refl }

read_below : (text : List ℕ) (most at n : ℕ) → Read text most at n → n < 10 ^ at
read_below text most at n r =
    let size : length (take at text) ≡ at = length-take_le at text (omega (arith, r.within_, r.inside)) in
    let below : decimal_value (take at text) < 10 ^ length (take at text) = value_below (take at text) r.all in
    let here : decimal_value (take at text) < 10 ^ at = subst (λ (k : ℕ). decimal_value (take at text) < 10 ^ k) size below in
    omega (arith, here, r.value)
  where
    length-take_le : (k : ℕ) (xs : List ℕ) → k ≤ length xs → length (take k xs) ≡ k
    length-take_le zero xs h = refl
    length-take_le (suc k) [] h = absurd (omega (arith, h))
    length-take_le (suc k) (x ∷ xs) h = ap suc (length-take_le k xs (omega (arith, h)))

-- so the next one fits
pub read_fits : (text : List ℕ) (most at n : ℕ) → Read text most at n → at < most → n < 100000000000000000
read_fits text most at n r l =
    let below = read_below text most at n r in
    let ten : 0 < 10 = omega arith in
    let most_ : at ≤ 17 = omega (arith, l, r.few) in
    let wide : 10 ^ at ≤ 10 ^ 17 = pow-le-pow_right ten most_ in
    omega (arith, below, wide)

-- the value of the digits read so far is below 10^18
pub read_small : (text : List ℕ) (most at n : ℕ) → Read text most at n → n < 10 ^ 18
read_small text most at n r =
    let below = read_below text most at n r in
    let ten : 0 < 10 = omega arith in
    let most_ : at ≤ 18 = omega (arith, r.within_, r.few) in
    let wide : 10 ^ at ≤ 10 ^ 18 = pow-le-pow_right ten most_ in
    omega (arith, below, wide)

-- one more digit is read
pub read_more : (text : List ℕ) (most at n d : ℕ) → Read text most at n → at < most → is_ascii_digit (get_or text at 0) ≡ true
    → d ≡ get_or text at 0 - 48 → Read text most (at + 1) (n * 10 + d)
read_more text most at n d r l h e =
    let inside : at < length text = omega (arith, l, r.inside) in
    record {
      within_ = omega (arith, l);
      inside = r.inside;
      few = r.few;
      value = omega (arith, r.value, e, value_behind (take at text) (get_or text at 0)) ∙ ap decimal_value (sym (take_more text at 0 inside));
      all = list_all_more is_ascii_digit text at 0 inside ∙ ap (λ b. b && is_ascii_digit (get_or text at 0)) r.all ∙ h;
    }

-- the text begins with the digits read so far, and they have this value
pub read_digits : (text : List ℕ) (most at n : ℕ) → Read text most at n → HasDigits text n (take (length text - at) (drop at text))
read_digits text most at n r = record {
  digits = take at text;
  is = sym (take-append-drop at text) ∙ ap (λ (r : List ℕ). take at text ++ r) (sym (take_rest text at));
  all = r.all;
  few = few_taken at text (omega (arith, r.within_, r.few));
  value = r.value;
} where
  few_taken : (k : ℕ) (xs : List ℕ) → k ≤ 18 → length (take k xs) ≤ 18
  few_taken k xs h = let m = length-take k xs in omega (arith, m, h)

-- what a call finds, by what is known of it
pub some_by : {X : Type 0} (o : Option X) (P Q : X → Type 0) → ((x : X) → P x → Q x) → IfSome o P → IfSome o Q
some_by None P Q so h = tt
some_by (Some x) P Q so h = so x h
