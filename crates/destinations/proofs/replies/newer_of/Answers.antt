-- `destinations::replies::newer_of` meets its contract: each return is a case of `newer_of`.
use Rattle.destinations.proofs.Replying.{becomes_requested, stays_own}
use Rattle.destinations.proofs.replies.newer_of.Goals as goal

pub returns-then-unknown-is_newer : goal.returns-then-unknown-is_newer
returns-then-unknown-is_newer c = search becomes_requested

pub returns : goal.returns
returns c = search stays_own
