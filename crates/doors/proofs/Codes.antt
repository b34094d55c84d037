-- What the doors answer, by the outcomes of the calls they make.
use Prim.Native.Nat.{ℕ}
use mathlib.Core.Path.{◌≡◌, refl, sym, ap, ◌∙◌}
use mathlib.Core.Bool.{Bool, true}
use mir.Val.{bool_byte}
use Rattle.region.proofs.Seam.{as_number}
use mathlib.Core.List.{List}
use Rattle.std.specs.Prelude.{⊤, Result, Ok, Err}
use Rattle.std.specs.Result.{MatchResult, IsOkAnd, IsErrAnd, result_and}
use Rattle.std.proofs.lemmas.Result.{err_from_is_err_and}
use Rattle.coo3d.specs.declared.Coo3D.{Coo3D}
use Rattle.edits.specs.Edits.{edit_of}
use Rattle.edits.specs.Edits as edit
use Rattle.refusal.specs.Answer.{Answer, answered, refused, refused_for, answer_of, outcome_of, verdict}
use Rattle.refusal.specs.declared.Cause.{Cause}
use Rattle.refusal.proofs.Answers.{never}
use Rattle.region.specs.View.{View}
use Rattle.region_file.specs.File.{read_of, trailer_of, with_flag_field}
use Rattle.region_file.proofs.Reading.{read_taken}
use Rattle.doors.specs.Doors.{code_of, in_or_out, held_of, held_file}

-- the code of a decision that was made a number
pub mapped : (r : Result Bool Cause) (m : Result ℕ Cause) → MatchResult r (λ x. IsOkAnd m (λ n. n ≡ bool_byte x)) (λ e. m ≡ Err e) → code_of (λ n. n) (answer_of m) ≡ code_of in_or_out (answer_of r)
mapped (Ok x) (Ok n) h = h ∙ as_number x
mapped (Ok x) (Err e) h = absurd h
mapped (Err e) m h = ap (λ (x : Result ℕ Cause). code_of (λ n. n) (answer_of x)) h

-- the code of an outcome, which says 0 of what is done
pub code_of_outcome : (r : Result ⊤ Cause) (x : Answer View) → outcome_of r true ≡ verdict x → code_of (λ n. n) (answer_of (result_and r (Ok 0))) ≡ code_of (λ (v : View). 0) x
code_of_outcome (Ok done) (answered v) e = refl
code_of_outcome (Ok done) (refused n vs) e = never (sym e)
code_of_outcome (Err cause) (answered v) e = never e
code_of_outcome (Err cause) (refused n vs) e = ap (code_of (λ (b : Bool). 0)) e

by_done : {A : Type 0} (o : Result ⊤ Cause) (a : A) (x : Answer A) → o ≡ Ok tt → outcome_of o a ≡ x → x ≡ answered a
by_done o a x e h = sym h ∙ rw e

by_refusal : {A : Type 0} (o : Result ⊤ Cause) (cause : Cause) (a : A) (x : Answer A) → o ≡ Err cause → outcome_of o a ≡ x → x ≡ refused_for cause
by_refusal o cause a x e h = sym h ∙ rw e

module _ (s : List ℕ) (p : Coo3D) (r : Result ⊤ Cause) where
  left : (cause : Cause) → IsErrAnd r (λ e. e ≡ cause) → held_of s p ≡ refused_for cause → (outcome_of r true ≡ verdict (held_of s p)) × (s ≡ held_file s p)
  unfolding held_file
  left cause h e = let q = err_from_is_err_and r h in (rw (q.1, q.2, e), rw e)

  module _ (o : Result ⊤ Cause) (v : View) (read : outcome_of o v ≡ read_of s) where
    pub hold_unread : (cause : Cause) → o ≡ Err cause → IsErrAnd r (λ e. e ≡ cause) → (outcome_of r true ≡ verdict (held_of s p)) × (s ≡ held_file s p)
    unfolding held_of
    hold_unread cause e h = left cause h (rw (by_refusal o cause v (read_of s) e read))

    module _ (q : Result ⊤ Cause) (w : View) (done : o ≡ Ok tt) (edited : outcome_of q w ≡ edit_of (edit.hold p) v) where
      held : held_of s p ≡ edit_of (edit.hold p) v
      unfolding held_of
      held = rw (by_done o v (read_of s) done read)

      pub hold_refused : (cause : Cause) → q ≡ Err cause → IsErrAnd r (λ e. e ≡ cause) → (outcome_of r true ≡ verdict (held_of s p)) × (s ≡ held_file s p)
      hold_refused cause e h = left cause h (held ∙ by_refusal q cause w (edit_of (edit.hold p) v) e edited)

      pub hold_done : (after : List ℕ) → q ≡ Ok tt → outcome_of r true ≡ verdict (trailer_of s) → after ≡ with_flag_field s w.flag → (outcome_of r true ≡ verdict (held_of s p)) × (after ≡ held_file s p)
      unfolding held_file
      hold_done after e set file =
          let h : held_of s p ≡ answered w = held ∙ by_done q w (edit_of (edit.hold p) v) e edited in
          (set ∙ read_taken s v (by_done o v (read_of s) done read) ∙ rw h, file ∙ rw h)
