-- `layout::row::write_head` meets its contract: its numbers are written side by side.
use Rattle.std.proofs.Common.{rules}
use Rattle.octets.specs.LittleEndian.{total}
use Rattle.layout.specs.Layout.{put_head}
use Rattle.layout.proofs.row.write_head.Goals as goal

pub returns : goal.returns
unfolding total put_head
returns c = cc

pub write_fields-requires : goal.write_fields-requires
unfolding total put_head
write_fields-requires c = search rules
