-- Records by csv's own reader.
use Rattle.std.proofs.Common.{◌≡◌, ℕ, ◌+◌, ◌<◌, ◌≤◌, ◌^◌, min, cond, arith, Bool, true, false, List, [], ◌∷◌, length, take, Option, Some}
use Rattle.std.proofs.Common.{None, refl, ap, sym, ◌∙◌, inl, inr, true≢false, subst}
use Rattle.std.specs.Prelude.{◌⊎◌, IsSome, option_map, unwrap_or, Result, Ok, Err}
use Rattle.std.proofs.lemmas.Bool.{cases_lt}
use Rattle.std.proofs.lemmas.List.{take_all}
use Rattle.csv.specs.Machine.{Read, next_record}
use Rattle.csv.specs.Reading.{default_config, strip_bom, records_from, source_of, reader_config, reader_trim, reader_state, reader_headers}
use Rattle.csv.specs.Reading.{names_headers, took_first, has_failed, is_flexible, Ready, ReadsNext, pending_of}
use Rattle.csv.specs.Reading.{reader_source, ChangesHeaders, ReadRecord, Reached}
use Rattle.csv.specs.declared.parser.Config.{Config}
use Rattle.csv.specs.declared.parser.State.{State}
use Rattle.csv.specs.declared.parser.State.TheVariants as st
use Rattle.csv.specs.declared.reader.Reader.{Reader}
use Rattle.csv.specs.declared.reader.Trim.TheVariants as trim
use Rattle.csv.proofs.ReadFacts.{rows-more, rows-end}
use Rattle.ln_rows.specs.Left.{Records, records_of, Source, bytes_of, reader_bytes, reader_records, IsReading, MayRead, TakesWithin}
use Rattle.ln_rows.proofs.Records.FirstLemmas.{next_gives, next_none, past_feed, same_first}

-- a line end before a text hides a byte order mark
behind_end : (xs : List ℕ) → strip_bom (10 ∷ xs) ≡ 10 ∷ xs
unfolding strip_bom
behind_end [] = refl
behind_end (b ∷ []) = refl
behind_end (b ∷ c ∷ rest) = refl

-- a reader's records, where its bytes are known
records_known : (r : Reader Source) (bytes : List ℕ) → has_failed r ≡ false → source_of bytes_of r ≡ Some bytes
    → reader_records r ≡ records_from default_config (length bytes + 1) (reader_state r) bytes
records_known r bytes f e =
    ap (λ (b : Bool). cond b [] (records_from default_config (length (reader_bytes r) + 1) (reader_state r) (reader_bytes r))) f
    ∙ ap (λ (o : Option (List ℕ)). records_from default_config (length (unwrap_or o []) + 1) (reader_state r) (unwrap_or o [])) e

-- a reader that is made over a text, after a line end, with an empty header
pub reader_begins : (a b : Reader Source) (bytes : List ℕ) → reader_config a ≡ default_config → reader_trim a ≡ trim.None
    → is_flexible a ≡ true → names_headers a ≡ true → reader_state a ≡ st.StartRecord → has_failed a ≡ false
    → source_of bytes_of a ≡ option_map strip_bom (Some (10 ∷ bytes)) → ChangesHeaders a b → IsSome (reader_headers b)
    → MayRead b × (reader_records b ≡ records_of bytes)
reader_begins a b bytes config plain flexible named state failed source changes set =
    let known : source_of bytes_of b ≡ Some (10 ∷ bytes) = ap (source_of bytes_of) changes ∙ source ∙ ap (λ (xs : List ℕ). Some xs) (behind_end bytes) in
    let at_start : reader_state b ≡ st.StartRecord = ap reader_state changes ∙ state in
    let good : has_failed b ≡ false = ap has_failed changes ∙ failed in (
      λ f. record {
        config = ap reader_config changes ∙ config;
        trim = ap reader_trim changes ∙ plain;
        flexible = ap is_flexible changes ∙ flexible;
        ready = inr (inl (ap names_headers changes ∙ named, set));
        bytes = 10 ∷ bytes;
        known = known;
      },
      records_known b (10 ∷ bytes) good known ∙ ap (λ (s : State). records_from default_config (length (10 ∷ bytes) + 1) s (10 ∷ bytes)) at_start
          ∙ same_first (10 ∷ bytes) bytes (past_feed bytes),
    )

-- there was none, and the bytes are still known
known_after : (a : Option Read) (xs : List ℕ) (k : Option (List ℕ)) (c : Config) (s t : State) (found : Bool) (fields : List (List ℕ))
    → ReadsNext c s (Some xs) k found fields t → (ys : List ℕ) × (k ≡ Some ys)
known_after a xs None c s t found fields h = absurd h
known_after a xs (Some ys) c s t found fields h = (ys, refl)

-- equal results have equal values
pub ok_same : {T E : Type 0} {a b : T} → ◌≡◌ {A = Result T E} (Ok a) (Ok b) → a ≡ b
ok_same {a = a} h = ap (λ (r : Result _ _). elim r [ Ok x ↦ x | Err e ↦ a ]) h

-- the first of some fields, where there may be fewer
take_min : (fields : List (List ℕ)) (most : ℕ) → take (min (length fields) most) fields ≡ take most fields
take_min fields most = by (cases_lt most (length fields)) where
  by : (most < length fields) ⊎ (length fields ≤ most) → take (min (length fields) most) fields ≡ take most fields
  by (inl h) = let e : min (length fields) most ≡ most = omega (arith, h) in ap (λ (n : ℕ). take n fields) e
  by (inr h) =
      let m : length fields ≤ min (length fields) most = omega (arith, h) in
      take_all (min (length fields) most) fields m ∙ sym (take_all most fields h)

-- ---- an old reader and a new one, after a read that gave these fields
module _ (old new : Reader Source) (fields : List (List ℕ)) (flexible : is_flexible new ≡ is_flexible old) where
  -- a record was read
  reader_takes : IsReading old → has_failed old ≡ false → has_failed new ≡ false → ReadRecord bytes_of old new true fields → took_first new ≡ true
      → IsReading new × (reader_records old ≡ fields ∷ reader_records new)
  unfolding Reached
  reader_takes h good good2 r first =
      let m = rows-more bytes_of old new fields default_config (reader_state old) h.bytes h.bytes [] h.config h.known (refl, refl) r in
      let p : Read = m.2.0 in
      let next : next_record default_config (reader_state old) [] [] h.bytes ≡ Some p = m.2.1 in
      let same : fields ≡ p.0 = m.2.2 in
      let state : p.1 ≡ reader_state new = m.2.3.0 in
      let rest : p.2 ≡ m.0 = m.2.3.1 in (
        record { config = r.2 ∙ h.config; trim = r.3 ∙ h.trim; flexible = flexible ∙ h.flexible; ready = inl first; bytes = m.0; known = m.1 },
        records_known old h.bytes good h.known ∙ next_gives (reader_state old) h.bytes p next
            ∙ ap (λ (s : State). p.0 ∷ records_from default_config (length p.2 + 1) s p.2) state
            ∙ ap (λ (xs : List ℕ). p.0 ∷ records_from default_config (length xs + 1) (reader_state new) xs) rest
            ∙ ap (λ (fs : List (List ℕ)). fs ∷ records_from default_config (length m.0 + 1) (reader_state new) m.0) (sym same)
            ∙ ap (λ (rs : Records). fields ∷ rs) (sym (records_known new m.0 good2 m.1)),
      )

  -- what a read without an error does
  pub reader_steps : (most : ℕ) (found : Bool) (kept : List (List ℕ)) (count : ℕ) → MayRead old
      → (has_failed old ≡ true → found ≡ false) → has_failed new ≡ has_failed old
      → (reader_trim old ≡ trim.None → Ready old → ReadRecord bytes_of old new found fields) → (reader_trim old ≡ trim.None → took_first new ≡ true)
      → kept ≡ take count fields → count ≡ min (length fields) most → length fields < 2 ^ 64
      → MayRead new × TakesWithin most found (reader_records old) (reader_records new) kept
  reader_steps most found kept count may failed goes reads first cut few small = by_failed (has_failed old) refl where
    step : Bool → Type 0
    step b = MayRead new × TakesWithin most b (reader_records old) (reader_records new) kept

    first_fields : kept ≡ take most fields
    first_fields = cut ∙ ap (λ (n : ℕ). take n fields) few ∙ take_min fields most

    by_found : (b : Bool) → IsReading old → has_failed old ≡ false → ReadRecord bytes_of old new b fields → step b
    by_found true h good r =
        let t = reader_takes h good (goes ∙ good) r (first h.trim) in
        (λ f. t.0, record { fields = fields; next = t.1; first = first_fields; few = small })
    by_found false h good r =
        let k = known_after (next_record default_config (reader_state old) [] [] h.bytes) h.bytes (pending_of (bytes_of (reader_source new)) new)
        (reader_config old) (reader_state old) (reader_state new) false fields (rw h.known at r.0) in (
          λ f. record {
            config = r.2 ∙ h.config;
            trim = r.3 ∙ h.trim;
            flexible = flexible ∙ h.flexible;
            ready = inl (first h.trim);
            bytes = k.0;
            known = rw r.1 k.1;
          },
          records_known old h.bytes good h.known
              ∙ next_none (reader_state old) h.bytes (rows-end bytes_of old new fields default_config h.bytes h.config h.known r),
        )

    by_failed : (b : Bool) → has_failed old ≡ b → step found
    by_failed true e =
        let none : found ≡ false = failed e in
        subst step (sym none) (
          λ f. absurd (true≢false (sym (goes ∙ e) ∙ f)),
          ap (λ (b : Bool). cond b [] (records_from default_config (length (reader_bytes old) + 1) (reader_state old) (reader_bytes old))) e,
        )
    by_failed false e = let h = may e in by_found found h e (reads h.trim h.ready)
