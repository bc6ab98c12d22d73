-- Proves that a list of programs keeps its invariant when one more program, of another name, is appended.
use Rattle.std.proofs.Common.{◌≡◌, ◌≢◌, ◌≤◌, List, [], ◌∷◌, ◌++◌, length}
use Rattle.std.specs.Prelude.{All, Result, Ok, Err, OnOk, OnErr}
use Rattle.std.proofs.lemmas.List.Quantifiers.{all_pairs_push}
use Rattle.std.proofs.lemmas.List.Elements.{All-append, All-cons, All-nil}
use Rattle.ln_base.specs.Limits.{most_stages}
use Rattle.ln_base.specs.declared.outside.NoMemory.{NoMemory}
use Rattle.ln_tree.specs.Names.{name_bytes}
use Rattle.ln_code.specs.Part.{Part}
use Rattle.ln_code.specs.Kept.{ArePrograms}

one_more : (ps : List Part) (p : Part) → ArePrograms ps → All (λ (q : Part). name_bytes q.shape.name ≢ name_bytes p.shape.name) ps
    → length p.blocks ≤ most_stages → ArePrograms (ps ++ p ∷ [])
one_more ps p a n s = record {
  names = all_pairs_push (λ (q r : Part). name_bytes q.shape.name ≢ name_bytes r.shape.name) ps p a.names (λ k d h. n k d h);
  small = All-append (λ (q : Part). length q.blocks ≤ most_stages) ps (p ∷ []) a.small
      (All-cons (λ (q : Part). length q.blocks ≤ most_stages) p [] s (All-nil (λ (q : Part). length q.blocks ≤ most_stages)));
}

-- whether there was memory or not
pub pushed_programs : {A : Type 0} (r : Result A NoMemory) (ps qs : List Part) (p : Part) → OnOk r (qs ≡ ps ++ p ∷ []) → OnErr r (qs ≡ ps)
    → ArePrograms ps → All (λ (q : Part). name_bytes q.shape.name ≢ name_bytes p.shape.name) ps → length p.blocks ≤ most_stages → ArePrograms qs
pushed_programs (Ok u) ps qs p h g a n s = rw h (one_more ps p a n s)
pushed_programs (Err e) ps qs p h g a n s = rw g a
