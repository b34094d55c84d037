-- Every promise, by the proof that its crate has.
use Rattle.costliest.proofs.Costliest.{costliest}
use Rattle.costliest.proofs.Numbers.{at_most, odd_at_most}
use Rattle.edit_theorem.proofs.Made.{edits_made}
use Rattle.edit_theorem.proofs.Theorem.{edit_theorem}
use Rattle.great_circles.proofs.Head.{first_is_head}
use Rattle.marked_cases.proofs.Cases.{marked_cases}
use Rattle.poles.proofs.Poles.{poles}
use Rattle.region.proofs.Made.{build_made, seams_made}
use Rattle.region_file.proofs.Made.{read_made}
use Rattle.region_file.proofs.Readers.{readers_agree}
use Rattle.region_file.proofs.RoundTrips.{read_written, write_read}
use Rattle.root.proofs.Grow.{grows}
use Rattle.root.proofs.Laws.{every_width}
use Rattle.root.proofs.Rounded.{sqrt_rounded, one_rounded}
use Rattle.root.proofs.WholeRoots.{whole_rooted}
use Rattle.promises.specs.Promises.{Promises}

pub promises : Promises
promises =
    record {
      sqrt_rounded = sqrt_rounded;
      one_rounded = one_rounded;
      root_grows = grows;
      root_every_width = every_width;
      whole_rooted = whole_rooted;
      first_is_head = first_is_head;
      read_written = read_written;
      write_read = write_read;
      readers_agree = readers_agree;
      edit_theorem = edit_theorem;
      build_made = build_made;
      read_made = read_made;
      edits_made = edits_made;
      seams_made = seams_made;
      poles = poles;
      in_range_at_most = at_most;
      in_range_odd_at_most = odd_at_most;
      costliest = costliest;
      marked_cases = marked_cases;
    }
