-- What the calls answer: document 01, 'Queries', for parallels.
use Rattle.std.specs.Prelude.{Result, Bool, not, cond, List, [], ◌∷◌, Float}
use Rattle.coo3d.specs.declared.UnitVect3.{UnitVect3}
use Rattle.crossings.specs.Crossings.{listed, crossings_of, first_of, all_of, intersecting_of}
use Rattle.domain.specs.Checks.{with_count}
use Rattle.refusal.specs.declared.Cause.{Cause}
use Rattle.refusal.specs.Answer.{Answer, answered, refuse_if, and_then, answer_of}
use Rattle.region.specs.declared.Edge.{Edge}
use Rattle.region.specs.View.{View, edges_of}
use Rattle.parallels.specs.declared.Parallel.{Parallel}
use Rattle.parallels.specs.Parallels.{is_parallel, spans_lat, point_of, parallel_crossing}

-- the count is tested, then the latitude, sine and cosine, which else are 5
abbrev pub with_parallel : {A : Type 0} → View → Float → Float → Float → Answer A → Answer A
with_parallel v lat sin cos next = with_count v.count (refuse_if (not (is_parallel lat sin cos)) 5 [] next)

abbrev pub parallel_at : Float → Float → Float → Answer Parallel
parallel_at lat sin cos = refuse_if (not (is_parallel lat sin cos)) 5 [] (answered (record { lat = lat; sin = sin; cos = cos }))

-- the first edge whose latitudes fit decides, though it give no point
unfoldable pub first_fit : Float → Float → Float → List Edge → List UnitVect3
first_fit lat sin cos [] = []
first_fit lat sin cos (e ∷ es) = cond (spans_lat e.from e.to lat) (listed (point_of e sin cos)) (first_fit lat sin cos es)

-- by a parallel that may have been refused
abbrev pub first_fit_of : View → Result Parallel Cause → Answer (List UnitVect3)
first_fit_of v parallel = with_count v.count (and_then (answer_of parallel) (λ p. first_of (first_fit p.lat p.sin p.cos (edges_of v))))

unfoldable pub parallel_first_of : View → Float → Float → Float → Answer (List UnitVect3)
parallel_first_of v lat sin cos = with_parallel v lat sin cos (first_of (first_fit lat sin cos (edges_of v)))

-- an all-answer goes on
unfoldable pub parallel_all_of : View → Float → Float → Float → Answer (List UnitVect3)
parallel_all_of v lat sin cos = with_parallel v lat sin cos (all_of (crossings_of (parallel_crossing lat sin cos) (edges_of v)))

abbrev pub is_intersecting_parallel : View → Float → Float → Float → Answer Bool
is_intersecting_parallel v lat sin cos = intersecting_of (parallel_first_of v lat sin cos)
