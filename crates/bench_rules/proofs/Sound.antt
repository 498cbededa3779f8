-- A command leaves a sound bench sound, and a command that prints a line has all its octets.
use Rattle.std.specs.Prelude.{Err, Ok, Option, None, Some, slice_get}
use Prim.Native.Nat.{ℕ, zero, suc, ◌+◌, ◌*◌, ◌^◌, ◌<◌, ◌≤◌}
use mathlib.Core.Path.{◌≡◌, refl, subst}
use mathlib.Core.Bool.{Bool, true, false, ◌&&◌, ◌||◌, cond}
use mathlib.Core.List.{List, [], ◌∷◌, ◌++◌}
use Rattle.std.proofs.lemmas.Option.{none-some, same_Some}
use lib.Dec.{eqb, ltb}
use lib.ListN.{length, take, drop}
use native.Mathlib.Omega.{arith}
use native.Mathlib.Nat.{pos_of_ne-zero}
use borrow.Author.Tests.{ltb-true, ltb-false, eqb-false}
use Rattle.octets.specs.LittleEndian.{number_at, number_octets, Octets}
use Rattle.octets.proofs.Laws.{number_bound}
use Rattle.octets.proofs.OctetLists.{octets_nil, octets_cons, octets_append, octets_drop, octets_of_number}
use Rattle.octets.proofs.Tests.{clash}
use Rattle.counters.specs.declared.SequenceNumber.{SequenceNumber}
use Rattle.layout.specs.declared.address.Address.{Address}
use Rattle.table.proofs.Heads.{fresh_octets}
use Rattle.element.specs.Element.{kind_of, count_of}
use Rattle.element.specs.Entries.{All}
use Rattle.element.proofs.Lengths.{length_octet}
use Rattle.element.proofs.Sizes.{element_length}
use Rattle.element.proofs.ReadBack.{octets_written}
use Rattle.rules.specs.Decision.{Decision}
use Rattle.rules.specs.Exit.{Frame, Effect, lend}
use Rattle.rules.specs.Calls.{Call, decision, OperandsFit}
use Rattle.rules.specs.Fresh.{making_fresh, make_fresh}
use Rattle.rules.specs.Walk.{table_at}
use Rattle.rules.proofs.Branches.{cond_cases}
use Rattle.rules.proofs.Rulings.{passed}
use Rattle.rules.proofs.Alls.{all_implies, all_append, all_map}
use Rattle.rules.proofs.Sending.{FrameFits, FramesFit}
use Rattle.rules.proofs.CallsKeep.{Kept, call_kept}
use Rattle.bench_rules.specs.Bench.{KeptFrame, Bench, Done, fault, line, WithLinks, table_of_point, address_of_point, with_table_at, kept_from, settled, called, KeptSoundly, Sound}
use Rattle.bench_rules.specs.Commands.{added, add_point, advance, link, ask_for, announce_self, handed_over, deliver, break_off, walk_to}
use Rattle.bench_rules.specs.Interpreter.{length_of, leaving_links, obeyed, command}

-- States that the bench after a command is sound.
abbrev pub Stays : Done → Type 0
Stays fault = Unit {0}
Stays (line answer third b) = Sound b

-- ---- octets

pub octets_take : (n : ℕ) (s : List ℕ) → Octets s → Octets (take n s)
unfolding Octets
octets_take zero s o = octets_nil
octets_take (suc n) [] o = octets_nil
octets_take (suc n) (x ∷ s) o = octets_cons x (take n s) (o 0) (octets_take n s (λ k. o (suc k)))

pub table_octets : (tables : List ℕ) (p : ℕ) → Octets tables → Octets (table_at tables 544 p)
unfolding table_at
table_octets tables p o = octets_take 544 (drop (544 * p) tables) (octets_drop (544 * p) tables o)

pub with_table_octets : (tables : List ℕ) (p : ℕ) (u : List ℕ) → Octets tables → Octets u → Octets (with_table_at tables p u)
unfolding with_table_at
with_table_octets tables p u o v =
    octets_append (take (544 * p) tables) _ (octets_take (544 * p) tables o)
    (octets_append u _ v (octets_drop 544 (drop (544 * p) tables) (octets_drop (544 * p) tables o)))

pub fresh_is_octets : (t u : List ℕ) (own : Address) (number : SequenceNumber) → make_fresh t own number ≡ Ok u → Octets u
unfolding make_fresh
fresh_is_octets t u own number is = subst Octets (passed (making_fresh t own number) u is).1 (fresh_octets (length t) own number)

-- ---- frames

-- The frames that a call of a point emits are kept soundly.
emitted_sound : (points p : ℕ) → p < points → (frames : List Frame) → FramesFit frames → All (KeptSoundly points) (kept_from p frames)
emitted_sound points p l frames fit =
    all_map (KeptSoundly points) FrameFits _
    (λ f fits.
    let long = length_octet (kind_of f.element) (count_of f.element) fits.element.count in
    record {
      sender = l;
      octets = octets_written f.element fits.element.count;
      short = omega (arith, element_length f.element, long);
    })
    frames fit

-- A frame that is found among sound frames is sound.
pub found_sound : (points : ℕ) (frames : List KeptFrame) → All (KeptSoundly points) frames → (k : ℕ) (f : KeptFrame) → slice_get frames k ≡ Some f
    → KeptSoundly points f
unfolding All
found_sound points [] h k f e = absurd (none-some f e)
found_sound points (g ∷ frames) h zero f e = subst (KeptSoundly points) (same_Some g f e) h.0
found_sound points (g ∷ frames) h (suc k) f e = found_sound points frames h.1 k f e

module _ (b : Bench) (h : Sound b) where
  address_fits : (p : ℕ) → (address_of_point b p).0 < 256 ^ 6
  address_fits p = number_bound 6 (table_of_point b p) 0 (table_octets b.tables p h.tables)

  settled_sound : (p : ℕ) → p < b.points → (call : Call) → OperandsFit call
      → (d : Decision Effect) → decision (lend (table_of_point b p)) 1560 call ≡ d → Stays (settled b p d)
  unfolding settled
  settled_sound p l call fit (Err n) is = h
  settled_sound p l call fit (Ok e) is =
      let t : List ℕ = table_of_point b p in
      let kept : Kept t e = call_kept (lend t) (table_octets b.tables p h.tables) 1560 call fit e is in
      let new : List KeptFrame = kept_from p e.frames in
      cond_cases Stays (ltb 128 (length (b.frames ++ new))) (λ _. tt)
      (λ few. record {
        points = h.points;
        clock = h.clock;
        tables = with_table_octets b.tables p e.lent.table h.tables kept.leaves.whole.octets;
        few = ltb-false 128 (length (b.frames ++ new)) few;
        frames = all_append (KeptSoundly b.points) b.frames new h.frames (emitted_sound b.points p l e.frames kept.frames);
      })

  called_sound : (p : ℕ) (call : Call) → OperandsFit call → Stays (called b p call)
  unfolding called
  called_sound p call fit =
      cond_cases Stays (ltb p b.points)
      (λ e. settled_sound p (ltb-true p b.points e) call fit (decision (lend (table_of_point b p)) 1560 call) refl) (λ _. tt)

  added_sound : (own : Address) (number : SequenceNumber) (d : Decision (List ℕ)) → make_fresh (table_of_point b b.points) own number ≡ d
      → b.points < 16 → Stays (added b d)
  added_sound own number (Err n) is l = h
  added_sound own number (Ok u) is l =
      record {
        points = omega arith;
        clock = h.clock;
        tables = with_table_octets b.tables b.points u h.tables (fresh_is_octets (table_of_point b b.points) u own number is);
        few = h.few;
        frames = all_implies (KeptSoundly b.points) (KeptSoundly (b.points + 1))
            (λ f k. record { sender = omega (arith, k.sender); octets = k.octets; short = k.short }) b.frames h.frames;
      }

  point_sound : (own : Address) (number : SequenceNumber) → Stays (add_point b own number)
  unfolding add_point
  point_sound own number =
      cond_cases Stays (ltb b.points 16)
      (λ e. added_sound own number (make_fresh (table_of_point b b.points) own number) refl (ltb-true b.points 16 e)) (λ _. tt)

  advance_sound : (by : ℕ) → Stays (advance b by)
  unfolding advance
  advance_sound by =
      cond_cases Stays (ltb 281474976710655 (b.clock + by)) (λ _. tt)
      (λ e. record {
        points = h.points;
        clock = ltb-false 281474976710655 (b.clock + by) e;
        tables = h.tables;
        few = h.few;
        frames = h.frames;
      })

  link_sound : (links : List (List ℕ)) (p q metric : ℕ) → Stays (link b links p q metric).done
  unfolding link
  link_sound links p q metric = cond_cases (λ (x : WithLinks). Stays x.done) (ltb p b.points && ltb q b.points) (λ _. h) (λ _. tt)

  ask_sound : (p flags : ℕ) (destination : Address) (lifetime : ℕ) → flags < 256 → lifetime < 256 ^ 4 → Stays (ask_for b p flags destination lifetime)
  unfolding ask_for
  ask_sound p flags destination lifetime small short =
      called_sound p _ (short, octets_cons flags (number_octets 6 destination.0) small (octets_of_number 6 destination.0))

  announce_sound : (p lifetime : ℕ) → lifetime < 256 ^ 4 → Stays (announce_self b p lifetime)
  unfolding announce_self
  announce_sound p lifetime short = called_sound p _ short

  deliver_sound : (links : List (List ℕ)) (k p : ℕ) → Stays (deliver b links k p)
  unfolding deliver
  deliver_sound links k p = by (slice_get b.frames k) refl
    where
      by : (o : Option KeptFrame) → slice_get b.frames k ≡ o → Stays (handed_over b links p o)
      by None is = tt
      by (Some f) is = called_sound p _ (address_fits f.sender, (found_sound b.points b.frames h.frames k f is).octets)

  break_sound : (p q : ℕ) → Stays (break_off b p q)
  unfolding break_off
  break_sound p q = cond_cases Stays (ltb q b.points) (λ _. called_sound p _ tt) (λ _. tt)

  walk_sound : (p q : ℕ) → Stays (walk_to b p q)
  unfolding walk_to
  walk_sound p q = cond_cases Stays (ltb p b.points && ltb q b.points) (λ _. h) (λ _. tt)

  module _ (links : List (List ℕ)) (s : List ℕ) (octets : Octets s) where
    abbrev pub Fine : WithLinks → Type 0
    Fine x = Stays x.done

    pub obeyed_sound : (c : ℕ) → Fine (obeyed b links s c)
    unfolding obeyed
    obeyed_sound c =
        cond_cases Fine (eqb c 1) (λ _. point_sound (record { 0 = number_at 6 s 1 }) (record { 0 = number_at 4 s 7 })) (λ _.
        cond_cases Fine (eqb c 2) (λ _. advance_sound (number_at 4 s 1)) (λ _.
        cond_cases Fine (eqb c 3) (λ _. link_sound links (number_at 1 s 1) (number_at 1 s 2) (number_at 4 s 3)) (λ _.
        cond_cases Fine (eqb c 4) (λ _. ask_sound (number_at 1 s 1) (number_at 1 s 2) _ (number_at 4 s 9) (number_bound 1 s 2 octets) (number_bound 4 s 9 octets)) (λ _.
        cond_cases Fine (eqb c 5) (λ _. announce_sound (number_at 1 s 1) (number_at 4 s 2) (number_bound 4 s 2 octets)) (λ _.
        cond_cases Fine (eqb c 6) (λ _. deliver_sound links (number_at 2 s 1) (number_at 1 s 3)) (λ _.
        cond_cases Fine (eqb c 7) (λ _. break_sound (number_at 1 s 1) (number_at 1 s 2)) (λ _.
        cond_cases Fine (eqb c 8) (λ _. walk_sound (number_at 1 s 1) (number_at 1 s 2)) (λ _. tt))))))))

    abbrev cut : Bool
    cut = eqb (length_of (number_at 1 s 0)) 0 || ltb (length s) (length_of (number_at 1 s 0))

    pub command_sound : Fine (command b links s)
    unfolding command
    command_sound = cond_cases Fine cut (λ _. tt) (λ _. obeyed_sound (number_at 1 s 0))

module _ (b : Bench) (links : List (List ℕ)) (s : List ℕ) where
  -- A command that prints a line has all its octets.
  pub whole_command : (answer third : ℕ) (b' : Bench) → (command b links s).done ≡ line answer third b'
      → (0 < length_of (number_at 1 s 0)) × (length_of (number_at 1 s 0) ≤ length s)
  unfolding command
  whole_command answer third b' e = by (eqb n 0) refl (ltb (length s) n) refl e
    where
      n : ℕ
      n = length_of (number_at 1 s 0)

      by : (x : Bool) → eqb n 0 ≡ x → (y : Bool) → ltb (length s) n ≡ y
          → (cond (x || y) (leaving_links links fault) (obeyed b links s (number_at 1 s 0))).done ≡ line answer third b' → (0 < n) × (n ≤ length s)
      by true xe y ye e = clash cc
      by false xe true ye e = clash cc
      by false xe false ye e = (pos_of_ne-zero (eqb-false n 0 xe), ltb-false (length s) n ye)
