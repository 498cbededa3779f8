-- `bench_core::calling::make_with` meets its contract, by cases of the call.
use Rattle.bench_core.proofs.Emitting.{ask_made, announcement_made, receive_made, break_made}
use Rattle.bench_core.proofs.calling.make_with.Goals as goal

pub returns-in-Ask : goal.returns-in-Ask
returns-in-Ask c = search ask_made

pub returns-in-Announce : goal.returns-in-Announce
returns-in-Announce c = search announcement_made

pub returns-in-Receive : goal.returns-in-Receive
returns-in-Receive c = search receive_made

pub returns-in-Break : goal.returns-in-Break
returns-in-Break c = search break_made
