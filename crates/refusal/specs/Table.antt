-- Document 01's table of refusals: each cause's number, and the values that are returned beside it.
use Rattle.std.specs.Prelude.{ℕ, List, [], ◌∷◌}
use Rattle.refusal.specs.declared.Cause.{Cause}
use Rattle.refusal.specs.declared.Cause.TheVariants.{OutsideDomain, NoPoint, TooManyPoints, NoSuchIndex, NoSuchParallel, NotFinite, WrongTrailer, ShortOutput, ZoneBounds}

abbrev pub number_of : Cause → ℕ
number_of (OutsideDomain index) = 1
number_of NoPoint = 2
number_of TooManyPoints = 3
number_of NoSuchIndex = 4
number_of NoSuchParallel = 5
number_of NotFinite = 6
number_of WrongTrailer = 7
number_of (ShortOutput needed) = 8
number_of ZoneBounds = 9

abbrev pub values_of : Cause → List ℕ
values_of (OutsideDomain index) = index ∷ []
values_of NoPoint = []
values_of TooManyPoints = []
values_of NoSuchIndex = []
values_of NoSuchParallel = []
values_of NotFinite = []
values_of WrongTrailer = []
values_of (ShortOutput needed) = needed ∷ []
values_of ZoneBounds = []
