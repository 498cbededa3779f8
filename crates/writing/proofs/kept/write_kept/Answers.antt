use Rattle.std.proofs.Common.{◌≡◌, rules, ap, ◌∙◌}
use Rattle.writing.proofs.Listing.{place_bounded, listing_more, listing_counted, listing_written}
use Rattle.writing.proofs.kept.write_kept.Goals as goal

pub loop-i-preserved : goal.loop-i-preserved
loop-i-preserved g c = (
  search rules,
  search (place_bounded g.E.Entry.entry_octets g.E.Entry.SIZE g.met.E.Entry.long),
  λ k keeps.
      let kept : c.keep.result ≡ k (g.E.Entry.entry_at c.args.part.now c.loop-i.i) = keeps _ _ c.keep.ensures ∙ ap k c.read.ensures in
      search (listing_more, kept, c.loop-i.invariant.2 k keeps),
)

pub returns-clause-value : goal.returns-clause-value
returns-clause-value g c = λ k keeps.
    rw (← c.SIZE.ensures) (search (listing_counted, c.loop-i.invariant.2 k keeps, rw (← c.SIZE.ensures) at g.met.E.Entry.long))

pub returns-clause-out_after : goal.returns-clause-out_after
returns-clause-out_after g c = λ k keeps. rw (← c.SIZE.ensures) (search (listing_written, c.loop-i.invariant.2 k keeps))
