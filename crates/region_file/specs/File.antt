-- The region file, edition 1: document 01, 'Region file'. Corners of 40 bytes, then a trailer of four u32: edition, flag, corner count, and the
-- distance from the file's end back to corner 0.
use Rattle.std.specs.Prelude.{ℕ, ◌+◌, ◌-◌, ◌*◌, Bool, not, cond, List, [], ◌∷◌, ◌++◌, eqb, ltb, length, take, drop}
use Rattle.domain.specs.Checks.{with_count}
use Rattle.refusal.specs.Answer.{Answer, answered, refused, refuse_if, and_then}
use Rattle.region.specs.Poles.{fixed_rule}
use Rattle.region.specs.View.{View}
use Rattle.region.specs.Region.{build_of}
use Rattle.region_file.specs.Bytes.{number_at, bytes_of, corners_at, corners_bytes}
use Rattle.region_file.specs.declared.Trailer.{Trailer}

-- a file's length without a maker's own bytes in front, which is the distance back to corner 0
abbrev pub file_length : ℕ → ℕ
file_length n = 40 * n + 16

-- ---- the reader

-- A length below 16 is 7. Then the fields in their order: another edition than 1, a flag above 1 are 7; count 0 is 2, above 64 is 3; another
-- distance, or a length below it, is 7.
unfoldable pub trailer_of : List ℕ → Answer Trailer
trailer_of s =
    let at = length s - 16 in
    let n = number_at 4 s (at + 8) in
    refuse_if (ltb (length s) 16) 7 []
    (refuse_if (not (eqb (number_at 4 s at) 1)) 7 []
    (refuse_if (ltb 1 (number_at 4 s (at + 4))) 7 []
    (with_count n
    (refuse_if (not (eqb (number_at 4 s (at + 12)) (file_length n))) 7 []
    (refuse_if (ltb (length s) (file_length n)) 7 []
    (answered (record { flag = eqb (number_at 4 s (at + 4)) 1; count = n })))))))

-- what every reader of edition 1 answers: the trailer, then the region built of the corners, the lowest bad one refused as 1
unfoldable pub read_of : List ℕ → Answer View
read_of s = and_then (trailer_of s) (λ t. build_of (corners_at s (length s - file_length t.count) t.count) t.count (fixed_rule t.flag))

-- ---- the writer

-- a u32 that is 1 or 0
abbrev pub flag_bytes : Bool → List ℕ
flag_bytes flag = bytes_of 4 (cond flag 1 0)

unfoldable pub trailer_bytes : Bool → ℕ → List ℕ
trailer_bytes flag n = bytes_of 4 1 ++ flag_bytes flag ++ bytes_of 4 n ++ bytes_of 4 (file_length n)

unfoldable pub file_of : View → List ℕ
file_of v = corners_bytes v.corners ++ trailer_bytes v.flag v.count

-- what the writer answers for an output of this length: counts (2, 3), then 8 with the length needed
unfoldable pub write_of : View → ℕ → Answer ℕ
write_of v room = with_count v.count (refuse_if (ltb room (file_length v.count)) 8 (file_length v.count ∷ []) (answered (file_length v.count)))

-- what is left of something lent, by the call's answer: a refusal leaves it as it was
abbrev pub left_by : {A B : Type 0} → Answer A → B → B → B
left_by (answered a) before after = after
left_by (refused number values) before after = before

-- the output afterwards: the file fills its front, and no later byte is touched
unfoldable pub output_of : View → List ℕ → List ℕ
output_of v out = left_by (write_of v (length out)) out (file_of v ++ drop (file_length v.count) out)

-- ---- the flag field in place

-- the four bytes of the flag, which begin 12 bytes before the end, set; a trailer that is refused leaves every byte
unfoldable pub with_flag_field : List ℕ → Bool → List ℕ
with_flag_field s flag = left_by (trailer_of s) s (take (length s - 12) s ++ flag_bytes flag ++ drop (length s - 8) s)
