-- Laws of `trailer_of`: the tests in their order, over plain numbers, for both readers; and what an accepted trailer tells.
use Prim.Native.Nat.{ℕ, ◌+◌, ◌-◌, ◌≤◌, ◌<◌}
use native.Mathlib.Omega.{arith}
use mathlib.Core.Path.{◌≡◌, refl, sym, ap, subst, ◌∙◌}
use mathlib.Core.Bool.{Bool, true, false, not}
use mathlib.Core.List.{List, []}
use borrow.Author.Tests.{eqb-true, ltb-false, eq-eqb, ne_eqb, le-ltb, lt-ltb}
use lib.Dec.{eqb, ltb}
use lib.ListN.{length}
use Rattle.domain.specs.Checks.{with_count}
use Rattle.std.specs.Prelude.{⊤, Option, Some, None, Result, Ok, Err}
use Rattle.std.specs.Option.{SomeIff, ok_or}
use Rattle.refusal.specs.declared.Cause.{Cause}
use Rattle.refusal.specs.declared.Cause.TheVariants.{WrongTrailer}
use Rattle.refusal.specs.Answer.{Answer, answered, refused, refused_for, refuse_if, and_then, answer_of}
use Rattle.refusal.proofs.Answers.{passed, same_answer, not_refused}
use Rattle.domain.proofs.Counts.{count_in, count_refused, count_answered, count_passed}
use Rattle.region_file.specs.declared.Trailer.{Trailer}
use Rattle.region_file.specs.Bytes.{number_at}
use Rattle.region_file.specs.File.{file_length, trailer_of}

-- ---- the tests in their order

-- what the last 16 bytes hold
pub record Fields (s : List ℕ) (edition flag n distance : ℕ) : Type 0 where
  pub long : 16 ≤ length s
  pub edition_is : edition ≡ number_at 4 s (length s - 16)
  pub flag_is : flag ≡ number_at 4 s (length s - 16 + 4)
  pub count_is : n ≡ number_at 4 s (length s - 16 + 8)
  pub distance_is : distance ≡ number_at 4 s (length s - 16 + 12)

module _ (s : List ℕ) where
  pub short_file : (start : Option ℕ) → SomeIff start (16 ≤ length s) (length s - 16) → (cause : Cause) → Err cause ≡ ok_or start WrongTrailer → refused_for cause ≡ trailer_of s
  unfolding trailer_of
  short_file None begins cause e =
      let h : length s < 16 = omega (arith, begins) in
      ap (λ (r : Result ℕ Cause). and_then (answer_of r) (λ x. trailer_of s)) e ∙ sym (simp (lt-ltb _ _ h))
  short_file (Some at) begins cause e = ap (λ (r : Result ℕ Cause). and_then (answer_of r) (λ x. trailer_of s)) e

  pub begins_at : (start : Option ℕ) → SomeIff start (16 ≤ length s) (length s - 16) → (at : ℕ) → ◌≡◌ {A = Result ℕ Cause} (Ok at) (ok_or start WrongTrailer)
      → (edition flag n distance : ℕ) → edition ≡ number_at 4 s at → flag ≡ number_at 4 s (at + 4) → n ≡ number_at 4 s (at + 8) → distance ≡ number_at 4 s (at + 12) → Fields s edition flag n distance
  begins_at None begins at e edition flag n distance p q r t = not_refused WrongTrailer e
  begins_at (Some k) begins at e edition flag n distance p q r t =
      let at_is : at ≡ length s - 16 = same_answer (ap answer_of e) ∙ begins.1 in
      record { long = begins.0; edition_is = rw (sym at_is) p; flag_is = rw (sym at_is) q; count_is = rw (sym at_is) r; distance_is = rw (sym at_is) t }

module _ {s : List ℕ} {edition flag n distance : ℕ} (f : Fields s edition flag n distance) where
  pub wrong_edition : (edition ≡ 1 → ⊥) → refused 7 [] ≡ trailer_of s
  unfolding trailer_of
  wrong_edition h = rw (sym f.edition_is) (sym (simp (le-ltb _ _ f.long, ne_eqb _ _ h)))

  module _ (known : edition ≡ 1) where
    pub wrong_flag : 1 < flag → refused 7 [] ≡ trailer_of s
    unfolding trailer_of
    wrong_flag h = rw (sym f.edition_is, sym f.flag_is) (sym (simp (le-ltb _ _ f.long, eq-eqb _ _ known, lt-ltb _ _ h)))

    module _ (set : flag ≤ 1) where
      ends : Answer Trailer
      ends = refuse_if (not (eqb distance (file_length n))) 7 [] (refuse_if (ltb (length s) (file_length n)) 7 [] (answered (record { flag = eqb flag 1; count = n })))

      counted : with_count n ends ≡ trailer_of s
      unfolding trailer_of ends
      counted = rw (sym f.edition_is, sym f.flag_is, sym f.count_is, sym f.distance_is) (sym (simp (le-ltb _ _ f.long, eq-eqb _ _ known, le-ltb _ _ set)))

      pub wrong_count : {k : ℕ} {vs : List ℕ} → ◌≡◌ {A = Answer ⊤} (refused k vs) (with_count n (answered tt)) → refused k vs ≡ trailer_of s
      wrong_count h = count_refused n tt ends h ∙ counted

      module _ (few : (0 < n) × (n ≤ 64)) {whole : ℕ} (w : whole ≡ file_length n) where
        pub wrong_distance : (distance ≡ whole → ⊥) → refused 7 [] ≡ trailer_of s
        unfolding ends
        wrong_distance h = sym (rw (sym w) (simp (ne_eqb _ _ h))) ∙ sym (count_in n ends few) ∙ counted

        pub cut : distance ≡ whole → length s < whole → refused 7 [] ≡ trailer_of s
        unfolding ends
        cut same h = sym (rw (sym w) (simp (eq-eqb _ _ same, lt-ltb _ _ h))) ∙ sym (count_in n ends few) ∙ counted

        pub good : distance ≡ whole → whole ≤ length s → answered (record { flag = eqb flag 1; count = n }) ≡ trailer_of s
        unfolding ends
        good same h = sym (rw (sym w) (simp (eq-eqb _ _ same, le-ltb _ _ h))) ∙ sym (count_in n ends few) ∙ counted

-- ---- what an accepted trailer tells

pub record Accepted (s : List ℕ) (t : Trailer) : Type 0 where
  pub long : 16 ≤ length s
  pub edition : number_at 4 s (length s - 16) ≡ 1
  pub flag_known : number_at 4 s (length s - 16 + 4) ≤ 1
  pub flag : t.flag ≡ eqb (number_at 4 s (length s - 16 + 4)) 1
  pub some : 0 < t.count
  pub few : t.count ≤ 64
  pub count : t.count ≡ number_at 4 s (length s - 16 + 8)
  pub distance : number_at 4 s (length s - 16 + 12) ≡ file_length t.count
  pub whole : file_length t.count ≤ length s

not_false : (b : Bool) → not b ≡ false → b ≡ true
not_false true e = refl
not_false false e = sym e

pub accepted : (s : List ℕ) (t : Trailer) → trailer_of s ≡ answered t → Accepted s t
unfolding trailer_of
accepted s t e =
    let a = passed _ _ _ _ _ e in
    let b = passed _ _ _ _ _ a.1 in
    let c = passed _ _ _ _ _ b.1 in
    let m = number_at 4 s (length s - 16 + 8) in
    let n = count_answered m _ t c.1 in
    let d = passed _ _ _ _ _ (count_passed m _ t c.1) in
    let f = passed _ _ _ _ _ d.1 in
    let k : number_at 4 s (length s - 16 + 8) ≡ t.count = ap (λ (x : Trailer). x.count) (same_answer f.1) in
    record {
      long = ltb-false _ _ a.0;
      edition = eqb-true _ _ (not_false _ b.0);
      flag_known = ltb-false _ _ c.0;
      flag = ap (λ (x : Trailer). x.flag) (sym (same_answer f.1));
      some = subst (λ (x : ℕ). 0 < x) k n.0;
      few = subst (λ (x : ℕ). x ≤ 64) k n.1;
      count = sym k;
      distance = subst (λ (x : ℕ). number_at 4 s (length s - 16 + 12) ≡ file_length x) k (eqb-true _ _ (not_false _ d.0));
      whole = subst (λ (x : ℕ). file_length x ≤ length s) k (ltb-false _ _ f.0);
    }
