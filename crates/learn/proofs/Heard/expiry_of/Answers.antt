-- `learn::Heard::expiry_of` meets its contract: each return is a case of `expiry_of`.
use Rattle.learn.proofs.Renewals.{expiry_stays, expiry_set}
use Rattle.learn.proofs.Heard.expiry_of.Goals as goal

pub returns-then-is_active-expiry : goal.returns-then-is_active-expiry
returns-then-is_active-expiry c = search expiry_stays

pub returns : goal.returns
returns c = search expiry_set
