-- Laws of turns: after a block the bench stands where its input has led it.
use Prim.Native.Nat.{ℕ, ◌+◌, ◌-◌, ◌≤◌}
use mathlib.Core.Path.{◌≡◌, refl, sym, ap, ap₂, subst, ◌∙◌}
use mathlib.Core.Bool.{false}
use mathlib.Core.List.{List, [], ◌++◌, append-nil, append_assoc}
use lib.ListN.{length, take, drop, length-take, length-drop}
use lib.Seq.{take-add, drop-drop, drop_at, length-take-le}
use native.Mathlib.Omega.{arith}
use Rattle.std.specs.Prelude.{Option, Some, IfSome}
use Rattle.octets.specs.LittleEndian.{zeros}
use Rattle.element.specs.Entries.{each}
use Rattle.bench_links.specs.Links.{no_links}
use Rattle.bench_rules.specs.Run.{Standing, going, obey_all, at_start}
use Rattle.bench_rules.proofs.InParts.{Leads, ComesTo, comes_to}
use Rattle.bench_points.specs.declared.Bench.{Bench}
use Rattle.bench_points.specs.InCode.{Contents, contents, in_rules}
use Rattle.bench_input.specs.declared.Cursor.{Cursor}
use Rattle.bench_input.specs.Reading.{left, past, Unread, Extends}
use Rattle.bench_run.specs.Blocks.{standing, course_of, pauses_in}
use Rattle.bench_run.specs.Turns.{Reached, Ready, block_course, Turned, ReadAndTurned}

drop_take : (k n : ℕ) (s : List ℕ) → k ≤ n → k ≤ length s → drop k (take n s) ≡ take (n - k) (drop k s)
drop_take k n s l m =
    let parts : k + (n - k) ≡ n = omega arith in
    ap (λ (j : ℕ). drop k (take j s)) (sym parts) ∙ ap (drop k) (take-add k (n - k) s)
    ∙ drop_at (take k s) (take (n - k) (drop k s)) k (length-take-le k s m)

-- ---- at first

-- Returns where a bench stands that holds these contents.
abbrev standing_with : Contents → (offset : ℕ) → Standing
standing_with b offset = record { bench = in_rules b; links = b.links; offset = offset }

module _ (c : Cursor) (ce : c ≡ record { from = 0; filled = 0; last = false; offset = 0 }) where
  pub first_ready : (b : Bench) → contents b ≡ record { points = 0; frames = 0; clock = 0; tables = zeros 8704; slots = zeros 33792; links = no_links }
      → (buffer : List ℕ) → Ready c buffer b
  unfolding each
  first_ready b be buffer =
      rw ce
      (record {
        unread = record { forward = omega arith; inside = omega arith };
        reached = subst (λ (h : Contents). Reached (standing_with h 0) []) (sym be) (record { input = []; printed = []; goes_on = λ more. refl });
      })

  pub first_offset : c.offset ≡ 0
  first_offset = ap (λ (k : Cursor). k.offset) ce

-- ---- a turn

-- More octets may be read after those that are left.
more_reached : (x : Standing) (l l' : List ℕ) → Reached x l → Extends l l' → Reached x l'
more_reached x l l' r m =
    record {
      input = r.input ++ m.more;
      printed = r.printed;
      goes_on = λ more.
          ap (obey_all (going [] at_start)) (append_assoc r.input m.more more) ∙ r.goes_on (m.more ++ more)
          ∙ ap (obey_all (going r.printed x)) (sym (append_assoc l m.more more) ∙ ap (λ (s : List ℕ). s ++ more) (sym m.is));
    }

-- After a part is obeyed, the bench stands where the input has led it.
part_reached : (x : Standing) (l text : List ℕ) (x' : Standing) → Reached x l → Leads [] x l text x' → Reached x' (drop (x'.offset - x.offset) l)
part_reached x l text x' r leads =
    record {
      input = r.input;
      printed = r.printed ++ text;
      goes_on = λ more.
          r.goes_on more ∙ ap (λ (t : List ℕ). obey_all (going t x) (l ++ more)) (sym (append-nil r.printed)) ∙ leads.goes_on r.printed more;
    }

-- After a refill the octets that were left stand first, and more may stand after them.
pub refilled : (c : Cursor) (b : Bench) (buffer : List ℕ) → Ready c buffer b → (c' : Cursor) (buffer' : List ℕ) → Unread c' buffer' → c'.offset ≡ c.offset
    → Extends (left c buffer) (left c' buffer') → Ready c' buffer' b
refilled c b buffer ready c' buffer' unread oe more =
    record {
      unread = unread;
      reached = rw oe (more_reached (standing b c.offset) (left c buffer) (left c' buffer') ready.reached more);
    }

-- After a block is obeyed, its course is that of the turn.
module _ (c : Cursor) (b : Bench) (buffer : List ℕ) (ready : Ready c buffer b) (o : Option ℕ) (b' : Bench) (text : List ℕ)
    (oe : course_of o c.offset b' text ≡ block_course c.last (standing b c.offset) (left c buffer)) where
  abbrev x : Standing
  x = standing b c.offset

  module _ (used : ℕ) (is : Unit {0} → o ≡ Some used) (few-used : IfSome o (λ k. k ≤ length (left c buffer))) where
    abbrev x' : Standing
    x' = standing b' (c.offset + used)

    course : going text x' ≡ block_course c.last x (left c buffer)
    course = rw (is tt) at oe

    inside-left : used ≤ length (left c buffer)
    inside-left = subst (λ (r : Option ℕ). IfSome r (λ k. k ≤ length (left c buffer))) (is tt) few-used

    long : length (left c buffer) ≡ c.filled - c.from
    long = let k = ready.unread.inside in omega (arith, length-take (c.filled - c.from) (drop c.from buffer), length-drop c.from buffer, k)

    few : used ≤ c.filled - c.from
    few = omega (arith, inside-left, long)

    module _ (after : Cursor) (ae : after ≡ past c used) where
      some_left : drop used (left c buffer) ≡ left after buffer
      some_left =
          let inside = length-take (c.filled - c.from) (drop c.from buffer) in
          let places : c.filled - c.from - used ≡ c.filled - (c.from + used) = omega arith in
          drop_take used (c.filled - c.from) (drop c.from buffer) few (omega (arith, inside-left, inside))
          ∙ ap₂ (λ (n : ℕ) (r : List ℕ). take n r) places (drop-drop used c.from buffer)
          ∙ ap (λ (k : Cursor). left k buffer) (sym ae)

      reached : Reached x' (left after buffer)
      reached =
          let leads : Leads [] x (left c buffer) text x' =
          subst (ComesTo [] x (left c buffer)) (sym course) (comes_to (pauses_in c.last) (length (left c buffer)) [] x (left c buffer)) in
          let far : c.offset + used - c.offset ≡ used = omega arith in
          subst (Reached x') (ap (λ (k : ℕ). drop k (left c buffer)) far ∙ some_left) (part_reached x (left c buffer) text x' ready.reached leads)

      pub goes_on : Ready after buffer b'
      goes_on =
          record {
            unread = rw ae (record { forward = omega (arith, few, ready.unread.forward); inside = ready.unread.inside });
            reached = subst (λ (k : ℕ). Reached (standing b' k) (left after buffer)) (sym (ap (λ (k : Cursor). k.offset) ae)) reached;
          }

-- `Turned` holds after more octets were read too.
pub read_and_turned : (after : Option Cursor) (b : Bench) (c : Cursor) (l : List ℕ) (unread : Cursor) (buffer : List ℕ) (b' : Bench)
    → Turned after (standing b unread.offset) unread buffer b' → unread.offset ≡ c.offset → Extends l (left unread buffer)
    → ReadAndTurned after (standing b c.offset) l buffer b'
read_and_turned after b c l unread buffer b' turned oe m =
    record {
      unread = unread;
      offset = oe;
      extends = m;
      turned = subst (λ (k : ℕ). Turned after (standing b k) unread buffer b') oe turned;
    }
