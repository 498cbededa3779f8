use Rattle.std.proofs.Common.{arith, rules}
use Rattle.octets.proofs.Laws.{total_more, fields_more, fields_ended}
use Rattle.octets.proofs.write_fields.Goals as goal

pub write_number-requires : goal.write_number-requires
write_number-requires c =
    omega (arith, total_more c.args.widths.now c.loop-i.i c.loop-i.o (omega arith) c.loop-i.invariant.1)

pub loop-i-preserved : goal.loop-i-preserved
loop-i-preserved c = search (rules, total_more, fields_more)

pub returns : goal.returns
returns c = search fields_ended
