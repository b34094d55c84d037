-- The theorem over every list of edits, by induction on the list.
use mathlib.Core.Path.{◌≡◌, refl, sym, ap, subst, ◌∙◌}
use mathlib.Core.Bool.{true}
use mathlib.Core.List.{List}
use lib.ListN.{length}
use Rattle.std.specs.declared.result.Result.{Result}
use Rattle.std.specs.declared.result.Result.TheVariants.{Ok, Err}
use Rattle.std.specs.Prelude.{⊤}
use Rattle.crossings.specs.Crossings.{Lists}
use Rattle.domain.proofs.Inside.{Good}
use Rattle.great_circles.specs.Queries.{arc_first_of, arc_all_of, is_intersecting_arc, circle_all_of}
use Rattle.lists.specs.Counts.{exactly_one}
use Rattle.parallels.specs.Queries.{parallel_first_of, parallel_all_of, is_intersecting_parallel}
use Rattle.refusal.specs.Answer.{Answer, answered, refused, and_then, outcome_of, verdict}
use Rattle.refusal.specs.declared.Cause.{Cause}
use Rattle.refusal.proofs.Answers.{never}
use Rattle.region.specs.declared.Region.{Region}
use Rattle.region.specs.View.{View, view_of, contained}
use Rattle.region.specs.Region.{build_of, contains_of, seam_count_of}
use Rattle.region.proofs.Building.{built_view}
use Rattle.edits.specs.declared.EditAnswer.{EditAnswer}
use Rattle.edits.specs.Edits.{Edit, Edited, changed, edit_of}
use Rattle.edit_theorem.specs.Record.{Plain, region_of, edited, checked_by, settled, after}
use Rattle.edit_theorem.specs.Theorem.{Run, stop, step, Agrees, Turns, Holds, at_end, at_edit, EditTheorem}
use Rattle.edit_theorem.proofs.Legal.{Legal, legal}
use Rattle.edit_theorem.proofs.Good.{fresh_good, build_start, good_edited}
use Rattle.edit_theorem.proofs.One.{changed_one}
use Rattle.edit_theorem.proofs.Turned.{turned}

agrees : (s : Plain) (r : Region) → Good s.corners → view_of r ≡ region_of s → Agrees s r
agrees s r g v =
    record {
      fresh = region_of s;
      built = fresh_good s g;
      view = v;
      contains = λ p d h. h ∙ ap (λ (w : View). contains_of w p) v;
      seam_count = λ n h. h ∙ ap seam_count_of v;
      arc_first = λ a b f h. h ∙ ap (λ (w : View). arc_first_of w a b) v;
      arc_all = λ a b l h. subst (λ (w : View). Lists l (arc_all_of w a b)) v h;
      arc_is = λ a b d h. h ∙ ap (λ (w : View). is_intersecting_arc w a b) v;
      circle = λ n l h. subst (λ (w : View). Lists l (circle_all_of w n)) v h;
      parallel_first = λ lat sin cos f h. h ∙ ap (λ (w : View). parallel_first_of w lat sin cos) v;
      parallel_all = λ lat sin cos l h. subst (λ (w : View). Lists l (parallel_all_of w lat sin cos)) v h;
      parallel_is = λ lat sin cos d h. h ∙ ap (λ (w : View). is_intersecting_parallel w lat sin cos) v;
    }

-- ---- one edit

-- what an answer of the table makes of the record `s` and of the view `w` that follows, with the outcome `o`
pub record Stepped (s : Plain) (x : Answer Edit) (o : Result ⊤ Cause) (w : View) : Type 0 where
  pub outcome : outcome_of o true ≡ verdict x
  pub good : Good (settled x s).corners
  pub view : w ≡ region_of (settled x s)

module _ (s : Plain) (e : Edit) (w : View) (good : Good s.corners) where
  stepped : (x : Answer Edit) (o : Result ⊤ Cause) → checked_by s e ≡ x → outcome_of o w ≡ and_then x (λ k. answered (changed k (region_of s)))
      → ((cause : Cause) → o ≡ Err cause → w ≡ region_of s) → Stepped s x o w
  stepped (answered k) (Ok tt) p a kept =
      let l : Legal (length s.corners) e k = legal (length s.corners) k e p in
      let q : w ≡ changed k (region_of s) = cc a in
      record { outcome = refl; good = good_edited e k s l good; view = q ∙ changed_one e k s l }
  stepped (answered k) (Err cause) p a kept = never a
  stepped (refused n vs) (Ok tt) p a kept = never (sym a)
  stepped (refused n vs) (Err cause) p a kept = record { outcome = cc a; good = good; view = kept cause refl }

module _ (s : Plain) (e : Edit) (r : Region) (a : EditAnswer) (good : Good s.corners) (v : view_of r ≡ region_of s) (h : Edited e r a) where
  pub step_of : Stepped s (checked_by s e) a.outcome (view_of a.region)
  unfolding edit_of
  step_of = stepped s e (view_of a.region) good (checked_by s e) a.outcome refl (h.answer ∙ ap (edit_of e) v) (λ cause q. ap view_of (h.kept cause q) ∙ v)

  turns : (k : Edit) → checked_by s e ≡ answered k → Turns k s r a.region
  turns k p m x q d =
      let l : Legal (length s.corners) e k = legal (length s.corners) k e p in
      let w : view_of a.region ≡ region_of (edited k s) = step_of.view ∙ ap (λ (y : Answer Edit). region_of (settled y s)) p in
      ap (λ (u : View). exactly_one (contained q u) (contained q (view_of r))) w
      ∙ ap (λ (u : View). exactly_one (contained q (region_of (edited k s))) (contained q u)) v
      ∙ turned q e k s l good.some m

-- ---- every list

holds : {r last : Region} {es : List Edit} (s : Plain) (run : Run r es last) → Good s.corners → view_of r ≡ region_of s → Holds r last es s run
holds {r = r} s stop g v = at_end (agrees s r g v)
holds s (step {r = r} {e = e} a h rest) g v =
    let n = step_of s e r a g v h in
    at_edit a h rest (agrees s r g v) n.outcome (turns s e r a g v h) (holds (after e s) rest n.good n.view)

pub edit_theorem : EditTheorem
edit_theorem points count rule b built done es last run =
    let t = build_start points count rule (view_of b.region) (built_view (build_of points count rule) b built done) in
    (t.plain, (t.starts, holds t.plain run t.good t.view))
