-- A record without quotes, and the fields between its commas.
use Rattle.std.proofs.Common.{◌≡◌, ◌≢◌, ℕ, zero, suc, ◌+◌, ◌-◌, ◌<◌, ◌≤◌, Bool, true, false, List, [], ◌∷◌, ◌++◌, length, get_or, take}
use Rattle.std.proofs.Common.{drop, Some, refl, ap, sym, ◌∙◌, subst, arith, cond, inl, inr, append_assoc, length-append, true≢false}
use Rattle.std.proofs.Common.{drop-cons, add-one}
use Rattle.std.specs.Prelude.{◌||◌, ◌&&◌, ◌==◌, ◌⊎◌, not}
use Rattle.std.specs.List.{list_all}
use Rattle.std.proofs.lemmas.List.{take_all, take_rest, length-take, take-append-drop}
use Rattle.std.proofs.lemmas.List.Folds.{list_all_more}
use Rattle.csv.specs.Machine.{next_record, step}
use Rattle.csv.specs.Reading.{default_config}
use Rattle.csv.specs.declared.parser.State.{State}
use Rattle.csv.specs.declared.parser.State.TheVariants as st
use Rattle.csv.specs.declared.parser.Action.{Action}
use Rattle.csv.specs.declared.parser.Action.TheVariants as act
use Rattle.ln_rows.specs.Left.{first_of, IsBetween, HasFirst}
use Rattle.ln_rows.specs.Line.{is_unquoted, is_no_comma, fields_from, fields_in}
use Rattle.ln_rows.specs.Plain.{PastEnd}
use Rattle.ln_rows.proofs.Records.MachineLemmas.{moves, comes_out, at_end}
use Rattle.ln_rows.proofs.Records.PlainLemmas.{end_goes}

abbrev does : State → Action → State × Action
does s a = (s, a)

-- what a byte that is neither quote nor line end does
abbrev by_comma : Bool → State × Action
by_comma c = cond c (does st.StartField act.EndField) (does st.InField act.Copy)

-- it isn't one of the three
no_stop : (quote feed_ return_ : Bool) → not (quote || feed_ || return_) ≡ true → (quote ≡ false) × (feed_ ≡ false) × (return_ ≡ false)
no_stop false false false h = (refl, refl, refl)
no_stop true f r h = absurd (true≢false (sym h))
no_stop false true r h = absurd (true≢false (sym h))
no_stop false false true h = absurd (true≢false (sym h))

in_by : (comma feed_ return_ : Bool) (t : State) → feed_ ≡ false → return_ ≡ false
    → cond comma (does st.StartField act.EndField) (cond (return_ || feed_) (does t act.EndRecord) (does st.InField act.Copy)) ≡ by_comma comma
in_by true f r t e g = refl
in_by false false false t e g = refl
in_by false true r t e g = absurd (true≢false e)
in_by false false true t e g = absurd (true≢false g)

start_by : (comma quote feed_ return_ : Bool) (t : State) → quote ≡ false → feed_ ≡ false → return_ ≡ false
    → cond quote (does st.InQuoted act.Skip)
    (cond comma (does st.StartField act.EndField) (cond (return_ || feed_) (does t act.EndRecord) (does st.InField act.Copy))) ≡ by_comma comma
start_by comma false f r t q e g = in_by comma f r t e g
start_by comma true f r t q e g = absurd (true≢false q)

record_by : (comma quote feed_ return_ : Bool) (t : State) → quote ≡ false → feed_ ≡ false → return_ ≡ false
    → cond (return_ || feed_) (does st.StartRecord act.Skip) (cond quote (does st.InQuoted act.Skip)
    (cond comma (does st.StartField act.EndField) (cond (return_ || feed_) (does t act.EndRecord) (does st.InField act.Copy)))) ≡ by_comma comma
record_by comma quote false false t q e g = start_by comma quote false false t q e g
record_by comma quote true r t q e g = absurd (true≢false e)
record_by comma quote false true t q e g = absurd (true≢false g)

-- a record has begun, and no quote is open
abbrev IsWithin : State → Type 0
IsWithin s = (s ≡ st.StartField) ⊎ (s ≡ st.InField)

within_step : (s : State) (b : ℕ) → IsWithin s → is_unquoted b ≡ true → step default_config s b ≡ by_comma (b == 44)
within_step s b (inl e) h =
    let n = no_stop (b == 34) (b == 10) (b == 13) h in
    ap (λ (t : State). step default_config t b) e ∙ start_by (b == 44) (b == 34) (b == 10) (b == 13) _ n.0 n.1 n.2
within_step s b (inr e) h =
    let n = no_stop (b == 34) (b == 10) (b == 13) h in
    ap (λ (t : State). step default_config t b) e ∙ in_by (b == 44) (b == 10) (b == 13) _ n.1 n.2

record_step : (b : ℕ) → is_unquoted b ≡ true → step default_config st.StartRecord b ≡ by_comma (b == 44)
record_step b h = let n = no_stop (b == 34) (b == 10) (b == 13) h in record_by (b == 44) (b == 34) (b == 10) (b == 13) _ n.0 n.1 n.2

-- by what such a step is, a field ends or grows
comma_goes : (s : State) (b : ℕ) (all : List (List ℕ)) (field xs : List ℕ) → step default_config s b ≡ by_comma true
    → next_record default_config s all field (b ∷ xs) ≡ next_record default_config st.StartField (all ++ field ∷ []) [] xs
comma_goes s b all field xs e = moves s st.StartField act.EndField b all field xs (ap (λ (p : State × Action). p.0) e) (ap (λ (p : State × Action). p.1) e) refl

copy_goes : (s : State) (b : ℕ) (all : List (List ℕ)) (field xs : List ℕ) → step default_config s b ≡ by_comma false
    → next_record default_config s all field (b ∷ xs) ≡ next_record default_config st.InField all (field ++ b ∷ []) xs
copy_goes s b all field xs e = moves s st.InField act.Copy b all field xs (ap (λ (p : State × Action). p.0) e) (ap (λ (p : State × Action). p.1) e) refl

-- what csv reads of a line, with the fields before it
pub record Ends (s : State) (all : List (List ℕ)) (field line behind rest : List ℕ) : Type 0 where
  pub state : State
  pub between : IsBetween state
  pub ends : next_record default_config s all field (line ++ behind) ≡ Some (all ++ fields_from field line, state, rest)

-- the end of the record after no byte of a field
fresh_goes : (all : List (List ℕ)) (field text rest : List ℕ) → PastEnd text rest → Ends st.StartField all field [] text rest
fresh_goes all field text rest (inl (inl e)) = record {
  state = st.StartRecord;
  between = inl refl;
  ends = ap (next_record default_config st.StartField all field) e ∙ comes_out st.StartField act.EndRecord 10 all field rest refl refl;
}
fresh_goes all field text rest (inl (inr e)) = record {
  state = st.AfterCr;
  between = inr refl;
  ends = ap (next_record default_config st.StartField all field) e ∙ comes_out st.StartField act.EndRecord 13 all field rest refl refl;
}
fresh_goes all field text rest (inr (e, f)) = record {
  state = st.StartRecord;
  between = inl refl;
  ends = ap (next_record default_config st.StartField all field) e ∙ at_end st.StartField all field
      ∙ ap (λ (r : List ℕ). Some (all ++ field ∷ [], st.StartRecord, r)) (sym f);
}

none_goes : (s : State) (all : List (List ℕ)) (field text rest : List ℕ) → IsWithin s → PastEnd text rest → Ends s all field [] text rest
none_goes s all field text rest (inl e) p = subst (λ (t : State). Ends t all field [] text rest) (sym e) (fresh_goes all field text rest p)
none_goes s all field text rest (inr e) p =
    let g = end_goes all field text rest p in
    subst (λ (t : State). Ends t all field [] text rest) (sym e) (record { state = g.state; between = g.between; ends = g.ends })

-- the fields after a byte, by what it is
abbrev fields_by : Bool → ℕ → List ℕ → List ℕ → List (List ℕ)
fields_by c b field bs = cond c (field ∷ fields_from [] bs) (fields_from (field ++ b ∷ []) bs)

byte_goes : (s : State) (b : ℕ) (all : List (List ℕ)) (field bs behind rest : List ℕ) (c : Bool) → step default_config s b ≡ by_comma c
    → ((t : State) → (more : List (List ℕ)) → (f : List ℕ) → IsWithin t → Ends t more f bs behind rest)
    → (state : State) × IsBetween state × (next_record default_config s all field (b ∷ (bs ++ behind)) ≡ Some (all ++ fields_by c b field bs, state, rest))
byte_goes s b all field bs behind rest true e more =
    let r = more st.StartField (all ++ field ∷ []) [] (inl refl) in (
      r.state,
      r.between,
      comma_goes s b all field (bs ++ behind) e ∙ r.ends
          ∙ ap (λ (fs : List (List ℕ)). Some (fs, r.state, rest)) (append_assoc all (field ∷ []) (fields_from [] bs)),
    )
byte_goes s b all field bs behind rest false e more =
    let r = more st.InField all (field ++ b ∷ []) (inr refl) in
    (r.state, r.between, copy_goes s b all field (bs ++ behind) e ∙ r.ends)

both_true : (a b : Bool) → (a && b) ≡ true → (a ≡ true) × (b ≡ true)
both_true true b h = (refl, h)
both_true false b h = absurd (true≢false (sym h))

line_goes : (s : State) (all : List (List ℕ)) (field line behind rest : List ℕ) → IsWithin s → list_all is_unquoted line ≡ true
    → PastEnd behind rest → Ends s all field line behind rest
line_goes s all field [] behind rest w h p = none_goes s all field behind rest w p
line_goes s all field (b ∷ bs) behind rest w h p =
    let k = both_true (is_unquoted b) (list_all is_unquoted bs) h in
    let r = byte_goes s b all field bs behind rest (b == 44) (within_step s b w k.0) (λ t more f v. line_goes t more f bs behind rest v k.1 p) in
    record { state = r.0; between = r.1; ends = r.2 }

-- the first record of a text that begins with such a line
pub line_gives : (text line behind rest : List ℕ) → text ≡ line ++ behind → line ≢ [] → list_all is_unquoted line ≡ true
    → PastEnd behind rest → HasFirst text (fields_in line) rest
line_gives text [] behind rest e n h p = absurd (n refl)
line_gives text (b ∷ bs) behind rest e n h p =
    let k = both_true (is_unquoted b) (list_all is_unquoted bs) h in
    let r = byte_goes st.StartRecord b [] [] bs behind rest (b == 44) (record_step b k.0) (λ t more f v. line_goes t more f bs behind rest v k.1 p) in
    record { state = r.0; between = r.1; first = ap first_of e ∙ r.2 }

-- a field up to a comma, and the last one
append_none : (xs : List ℕ) → xs ++ [] ≡ xs
append_none [] = refl
append_none (x ∷ xs) = ap (λ (ys : List ℕ). x ∷ ys) (append_none xs)

no_comma : (b : ℕ) → is_no_comma b ≡ true → (b == 44) ≡ false
no_comma b h = by (b == 44) h where
  by : (c : Bool) → not c ≡ true → c ≡ false
  by true e = absurd (true≢false (sym e))
  by false e = refl

a_comma : (b : ℕ) → is_no_comma b ≡ false → (b == 44) ≡ true
a_comma b h = by (b == 44) h where
  by : (c : Bool) → not c ≡ false → c ≡ true
  by true e = refl
  by false e = absurd (true≢false e)

fields_copy : (field : List ℕ) (b : ℕ) (bs : List ℕ) → (b == 44) ≡ false → fields_from field (b ∷ bs) ≡ fields_from (field ++ b ∷ []) bs
fields_copy field b bs e = ap (λ (c : Bool). fields_by c b field bs) e

fields_comma : (field : List ℕ) (b : ℕ) (bs : List ℕ) → (b == 44) ≡ true → fields_from field (b ∷ bs) ≡ field ∷ fields_from [] bs
fields_comma field b bs e = ap (λ (c : Bool). fields_by c b field bs) e

fields_to : (field ds : List ℕ) (b : ℕ) (cs : List ℕ) → list_all is_no_comma ds ≡ true → (b == 44) ≡ true
    → fields_from field (ds ++ b ∷ cs) ≡ (field ++ ds) ∷ fields_from [] cs
fields_to field [] b cs h e = fields_comma field b cs e ∙ ap (λ (f : List ℕ). f ∷ fields_from [] cs) (sym (append_none field))
fields_to field (d ∷ ds) b cs h e =
    let k = both_true (is_no_comma d) (list_all is_no_comma ds) h in
    fields_copy field d (ds ++ b ∷ cs) (no_comma d k.0) ∙ fields_to (field ++ d ∷ []) ds b cs k.1 e
    ∙ ap (λ (f : List ℕ). f ∷ fields_from [] cs) (append_assoc field (d ∷ []) ds)

fields_last : (field ds : List ℕ) → list_all is_no_comma ds ≡ true → fields_from field ds ≡ (field ++ ds) ∷ []
fields_last field [] h = ap (λ (f : List ℕ). f ∷ []) (sym (append_none field))
fields_last field (d ∷ ds) h =
    let k = both_true (is_no_comma d) (list_all is_no_comma ds) h in
    fields_copy field d ds (no_comma d k.0) ∙ fields_last (field ++ d ∷ []) ds k.1 ∙ ap (λ (f : List ℕ). f ∷ []) (append_assoc field (d ∷ []) ds)

-- how far a line has been split
pub record Splits (line : List ℕ) (most : ℕ) (kept : List (List ℕ)) (rest : List ℕ) : Type 0 where
  pub is : fields_in line ≡ kept ++ fields_in rest
  pub few : length kept ≤ most

-- one more field is kept, up to the next comma
pub splits_more : (line : List ℕ) (most : ℕ) (kept kept2 : List (List ℕ)) (rest : List ℕ) (size : ℕ) → Splits line most kept rest
    → length kept < most → size < length rest → list_all is_no_comma (take size rest) ≡ true → is_no_comma (get_or rest size 0) ≡ false
    → kept2 ≡ kept ++ (take size rest ∷ []) → Splits line most kept2 (drop (suc size) rest)
splits_more line most kept kept2 rest size s l m all comma k = record {
  is = s.is ∙ ap (λ (fs : List (List ℕ)). kept ++ fs) here ∙ sym (append_assoc kept (take size rest ∷ []) (fields_in (drop (suc size) rest)))
      ∙ ap (λ (fs : List (List ℕ)). fs ++ fields_in (drop (suc size) rest)) (sym k);
  few = omega (arith, l, ap length k, length-append kept (take size rest ∷ []));
} where
  here : fields_in rest ≡ take size rest ∷ fields_in (drop (suc size) rest)
  here =
      let whole : take size rest ++ (get_or rest size 0 ∷ drop (suc size) rest) ≡ rest =
      ap (λ (xs : List ℕ). take size rest ++ xs) (sym (drop-cons rest size 0 m)) ∙ take-append-drop size rest in
      ap fields_in (sym whole) ∙ fields_to [] (take size rest) (get_or rest size 0) (drop (suc size) rest) all (a_comma (get_or rest size 0) comma)

-- the same, with the rest after the comma as a slice of the bytes that remained
pub splits_on : (line : List ℕ) (most : ℕ) (kept kept2 : List (List ℕ)) (rest : List ℕ) (size : ℕ) → Splits line most kept rest
    → length kept < most → size < length rest → list_all is_no_comma (take size rest) ≡ true → is_no_comma (get_or rest size 0) ≡ false
    → kept2 ≡ kept ++ (take size rest ∷ []) → Splits line most kept2 (take (length rest - (size + 1)) (drop (size + 1) rest))
splits_on line most kept kept2 rest size s l m all comma k =
    subst (λ (xs : List ℕ). Splits line most kept2 xs) (ap (λ (n : ℕ). drop n rest) (sym (add-one size)) ∙ sym (take_rest rest (size + 1)))
    (splits_more line most kept kept2 rest size s l m all comma k)

-- from a place on, at most n bytes remain of at most n
pub rest_within : (rest : List ℕ) (k n : ℕ) → length rest ≤ n → length (take (length rest - k) (drop k rest)) ≤ n
rest_within rest k n h = let e = length-take (length rest - k) (drop k rest) in omega (arith, e, h)

-- with the last field, those kept are the fields of the line, as many as there is room for
pub splits_all : (line : List ℕ) (most : ℕ) (kept kept2 : List (List ℕ)) (rest : List ℕ) (size : ℕ) → Splits line most kept rest
    → length kept < most → size ≡ length rest → list_all is_no_comma (take size rest) ≡ true
    → kept2 ≡ kept ++ (take size rest ∷ []) → kept2 ≡ take most (fields_in line)
splits_all line most kept kept2 rest size s l m all k =
    let whole : take size rest ≡ rest = take_all size rest (omega (arith, m)) in
    let last : fields_in rest ≡ take size rest ∷ [] = ap fields_in (sym whole) ∙ fields_last [] (take size rest) all in
    let is : fields_in line ≡ kept2 = s.is ∙ ap (λ (fs : List (List ℕ)). kept ++ fs) last ∙ sym k in
    let few : length kept2 ≤ most = omega (arith, l, ap length k, length-append kept (take size rest ∷ [])) in
    sym (take_all most kept2 few) ∙ ap (take most) (sym is)

-- a byte more that passes a test
pub more_pass : (p : ℕ → Bool) (text : List ℕ) (at : ℕ) → at < length text → list_all p (take at text) ≡ true → p (get_or text at 0) ≡ true
    → list_all p (take (at + 1) text) ≡ true
more_pass p text at l h e = list_all_more p text at 0 l ∙ ap (λ b. b && p (get_or text at 0)) h ∙ e

-- the first record of a text whose first bytes are such a line
pub record_gives : (text behind rest : List ℕ) (size : ℕ) → behind ≡ take (length text - size) (drop size text) → size ≤ length text
    → size ≢ 0 → list_all is_unquoted (take size text) ≡ true → PastEnd behind rest → HasFirst text (fields_in (take size text)) rest
record_gives text behind rest size b l n h p = line_gives text (take size text) behind rest whole some h p where
  whole : text ≡ take size text ++ behind
  whole = sym (take-append-drop size text) ∙ ap (λ (xs : List ℕ). take size text ++ xs) (sym (take_rest text size) ∙ sym b)

  some : take size text ≢ []
  some e = n (omega (arith, length-take_le size text l, ap length e)) where
    length-take_le : (k : ℕ) (xs : List ℕ) → k ≤ length xs → length (take k xs) ≡ k
    length-take_le zero xs h = refl
    length-take_le (suc k) [] h = absurd (omega (arith, h))
    length-take_le (suc k) (x ∷ xs) h = ap suc (length-take_le k xs (omega (arith, h)))
