-- `doors::hold` meets its contract. Assumes nothing.
use Rattle.region.proofs.Answered.{as_answer}
use Rattle.doors.proofs.Codes.{hold_unread, hold_refused, hold_done}
use Rattle.doors.proofs.hold.Goals as goal

pub returns-in_err-read : goal.returns-in_err-read
returns-in_err-read c = let h = hold_unread _ _ _ _ _ (as_answer _ _ c.read_straight-read.ensures) _ c.in_err-read.was c.from_residual.ensures.1 in record { answer = h.0; file_after = h.1 }

pub returns-in_err-held : goal.returns-in_err-held
returns-in_err-held c = let h = hold_refused _ _ _ _ _ (as_answer _ _ c.read_straight-read.ensures) _ _ c.in_ok-read.was c.hold-held.ensures.answer _ c.in_err-held.was c.from_residual-in_err-held.ensures.1 in record { answer = h.0; file_after = h.1 }

pub returns : goal.returns
returns c = let h = hold_done _ _ _ _ _ (as_answer _ _ c.read_straight-read.ensures) _ _ c.in_ok-read.was c.hold-held.ensures.answer _ c.in_ok-held.was c.set_flag.ensures.answer c.set_flag.ensures.file_after in record { answer = h.0; file_after = h.1 }
