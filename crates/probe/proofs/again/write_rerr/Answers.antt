-- `probe::again::write_rerr` meets its contract: it writes the frame if it fits.
use Rattle.std.proofs.Common.{rules, Some}
use Rattle.std.proofs.lemmas.Result.{err_from_is_err_and}
use Rattle.writing.proofs.Listing.{all_are_kept}
use Rattle.writing.proofs.Written.{rerr_listed}
use Rattle.probe.proofs.Frames.{no_room, wrote, rerr_size}
use Rattle.probe.proofs.again.write_rerr.Goals as goal

pub returns-in_err-check_room : goal.returns-in_err-check_room
returns-in_err-check_room c =
    let p = err_from_is_err_and c.from_residual.result c.from_residual.ensures.1 in
    rw (p.1, p.2) (search (no_room, rerr_size, c.in_err-check_room.was))

pub returns : goal.returns
returns c =
    let listed = rw all_are_kept at (c.write_kept.ensures.out_after Some (λ m o h. search rules)) in
    search (wrote, rerr_size, rerr_listed, listed, c.in_ok-check_room.was)
