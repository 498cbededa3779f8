-- Frames that are put into slots are kept there, after the frames kept before.
use Rattle.std.specs.Prelude.{None, Some, slice_get}
use Prim.Native.Nat.{ℕ, zero, suc, ◌+◌, ◌*◌, ◌<◌, ◌≤◌}
use mathlib.Core.Path.{◌≡◌, refl, sym, ap, ap₂, subst, ◌∙◌}
use mathlib.Core.List.{List, [], ◌∷◌, ◌++◌, append-nil, append_assoc, map, flat_map}
use lib.ListN.{length, get_or, take, drop, length-append, length-map, length-take, length-drop, get_or-append}
use lib.Seq.{length-take-le, take_at, drop_at, get_or_at, get_or-append-add, drop-append-add, drop-append-le, get_or-take, take-take, take-add, length-sets, sets-eq}
use native.Mathlib.Omega.{arith}
use native.Mathlib.Nat.{add-zero, zero-add}
use borrow.Author.Count.{below_more}
use Rattle.octets.specs.LittleEndian.{overwrite}
use Rattle.element.specs.Element.{kind_of, count_of}
use Rattle.element.specs.Entries.{each, All}
use Rattle.element.proofs.Lengths.{length_octet}
use Rattle.element.proofs.Sizes.{frame_length}
use Rattle.rules.specs.Exit.{Frame, frame_octets, element_in}
use Rattle.rules.proofs.Alls.{all_map}
use Rattle.rules.proofs.Sending.{FrameFits, FramesFit}
use Rattle.rules.proofs.Output.{written, length_told, element_in_lem, after_is}
use Rattle.bench_rules.specs.Bench.{KeptFrame, kept_from}
use Rattle.bench_slots.specs.Slots.{sender_of, element_of, kept_at, kept_in, put_frames, Holds}

-- ---- entries one after another

module _ {A : Type 0} (f : ℕ → A) where
  each_last : (i n : ℕ) → each f i (suc n) ≡ each f i n ++ (f (i + n) ∷ [])
  unfolding each
  each_last i zero = ap (λ (k : ℕ). f k ∷ []) (sym (add-zero i))
  each_last i (suc n) =
      let place : suc i + n ≡ i + suc n = omega arith in
      ap (λ (l : List A). f i ∷ l) (each_last (suc i) n ∙ ap (λ (k : ℕ). each f (suc i) n ++ (f k ∷ [])) place)

  each_alike : (g : ℕ → A) (i n : ℕ) → ((k : ℕ) → k < i + n → f k ≡ g k) → each f i n ≡ each g i n
  unfolding each
  each_alike g i zero h = refl
  each_alike g i (suc n) h = ap₂ ◌∷◌ (h i (omega arith)) (each_alike g (suc i) n (λ k l. h k (omega arith)))

  each_found : (i n k : ℕ) → k < n → slice_get (each f i n) k ≡ Some (f (i + k))
  unfolding each
  each_found i zero k l = absurd (omega arith)
  each_found i (suc n) zero l = ap (λ (m : ℕ). Some (f m)) (sym (add-zero i))
  each_found i (suc n) (suc k) l =
      let place : suc i + k ≡ i + suc k = omega arith in
      each_found (suc i) n k (omega arith) ∙ ap (λ (m : ℕ). Some (f m)) place

  pub each_beyond : (i n k : ℕ) → n ≤ k → slice_get (each f i n) k ≡ None
  unfolding each
  each_beyond i zero k l = refl
  each_beyond i (suc n) zero l = absurd (omega arith)
  each_beyond i (suc n) (suc k) l = each_beyond (suc i) n k (omega arith)

pub frame_found : (slots : List ℕ) (n k : ℕ) → k < n → slice_get (kept_in slots n) k ≡ Some (kept_at slots k)
frame_found slots n k l = each_found (kept_at slots) 0 n k l ∙ ap (λ (m : ℕ). Some (kept_at slots m)) (zero-add k)

-- ---- what lies within the first n octets depends on these alone

-- The m octets from place a on, if they lie within the first n octets of s, can be cut from the first n octets.
part_of : (s : List ℕ) (n a m : ℕ) → a + m ≤ n → n ≤ length s → take m (drop a s) ≡ drop a (take (a + m) (take n s))
part_of s n a m inside long =
    let a_long : a ≤ length s = omega arith in
    sym (ap (drop a) (take-take (a + m) n s inside ∙ take-add a m s) ∙ drop_at (take a s) (take m (drop a s)) a (length-take-le a s a_long))

module _ (s s' : List ℕ) (n : ℕ) (long : n ≤ length s) (long' : n ≤ length s') (same : take n s' ≡ take n s) where
  octet_before : (i : ℕ) → i < n → get_or s' i 0 ≡ get_or s i 0
  octet_before i l = sym (get_or-take n s' i 0 l) ∙ ap (λ (t : List ℕ). get_or t i 0) same ∙ get_or-take n s i 0 l

  part_before : (a m : ℕ) → a + m ≤ n → take m (drop a s') ≡ take m (drop a s)
  part_before a m inside =
      part_of s' n a m inside long' ∙ ap (λ (t : List ℕ). drop a (take (a + m) t)) same ∙ sym (part_of s n a m inside long)

-- ---- one frame

-- The octets w are one frame by their Length, and fit in a slot.
record InSlot (w : List ℕ) : Type 0 where
  long : length w ≡ 8 + get_or w 7 0
  short : length w ≤ 263

-- The element does not reach beyond its slot.
abbrev Short : KeptFrame → Type 0
Short f = length f.element ≤ 257

abbrev pub ShortBelow : List ℕ → ℕ → Type 0
ShortBelow s k = (i : ℕ) → i < k → Short (kept_at s i)

module _ (s : List ℕ) (long : length s ≡ 33792) (sender k : ℕ) (l : k < 128) (w : List ℕ) (f : InSlot w) where
  abbrev after : List ℕ
  after = overwrite s (264 * k) (sender ∷ w)

  abbrev rest : List ℕ
  rest = drop (264 * k + length (sender ∷ w)) s

  after_long : length after ≡ length s
  unfolding overwrite
  after_long = length-sets s (264 * k) (sender ∷ w)

  parts : after ≡ take (264 * k) s ++ (sender ∷ w ++ rest)
  unfolding overwrite
  parts = sets-eq (sender ∷ w) s (264 * k) (omega (arith, f.short)) ∙ append_assoc (take (264 * k) s) (sender ∷ w) rest

  before_long : length (take (264 * k) s) ≡ 264 * k
  before_long = let room : 264 * k ≤ length s = omega arith in length-take-le (264 * k) s room

  before_same : take (264 * k) after ≡ take (264 * k) s
  before_same = ap (take (264 * k)) parts ∙ take_at (take (264 * k) s) (sender ∷ w ++ rest) (264 * k) before_long

  -- The frames in earlier slots stay.
  earlier_same : (i : ℕ) → i < k → Short (kept_at s i) → kept_at after i ≡ kept_at s i
  unfolding sender_of element_of
  earlier_same i m short =
      let room : 264 * k ≤ length s = omega arith in
      let room' : 264 * k ≤ length after = omega (arith, after_long) in
      let told : get_or after (264 * i + 8) 0 ≡ get_or s (264 * i + 8) 0 = octet_before s after (264 * k) room room' before_same (264 * i + 8) (omega arith) in
      let few : 2 + get_or s (264 * i + 8) 0 ≤ 257 =
      omega (arith, short, length-take (2 + get_or s (264 * i + 8) 0) (drop (264 * i + 7) s), length-drop (264 * i + 7) s) in
      ap₂ (λ (x : ℕ) (e : List ℕ). record { sender = x; element = e })
      (octet_before s after (264 * k) room room' before_same (264 * i) (omega arith))
      (ap (λ (x : ℕ). take (2 + x) (drop (264 * i + 7) after)) told
      ∙ part_before s after (264 * k) room room' before_same (264 * i + 7) (2 + get_or s (264 * i + 8) 0) (omega (arith, few)))

  -- The Length octet of the new frame stands in slot k.
  length_octet_there : get_or after (264 * k + 8) 0 ≡ get_or w 7 0
  length_octet_there =
      ap₂ (λ (t : List ℕ) (n : ℕ). get_or t (n + 8) 0) parts (sym before_long)
      ∙ get_or-append-add (take (264 * k) s) (sender ∷ w ++ rest) 8 0
      ∙ get_or-append w rest 0 7 (omega (arith, f.long))

  behind_sender : drop (264 * k + 7) after ≡ drop 6 w ++ rest
  behind_sender =
      let six : 6 ≤ length w = omega (arith, f.long) in
      ap₂ (λ (t : List ℕ) (n : ℕ). drop (n + 7) t) parts (sym before_long)
      ∙ drop-append-add (take (264 * k) s) (sender ∷ w ++ rest) 7
      ∙ drop-append-le 6 w rest six

  new_kept : kept_at after k ≡ record { sender = sender; element = element_in w }
  unfolding sender_of element_of
  new_kept =
      let exact : length (drop 6 w) ≡ 2 + get_or w 7 0 = omega (arith, length-drop 6 w, f.long) in
      ap₂ (λ (x : ℕ) (e : List ℕ). record { sender = x; element = e })
      (ap (λ (t : List ℕ). get_or t (264 * k) 0) parts ∙ get_or_at (take (264 * k) s) sender (w ++ rest) 0 (264 * k) before_long)
      (ap₂ (λ (x : ℕ) (t : List ℕ). take (2 + x) t) length_octet_there behind_sender ∙ take_at (drop 6 w) rest (2 + get_or w 7 0) exact)

  one_kept : ShortBelow s k → kept_in after (suc k) ≡ kept_in s k ++ (record { sender = sender; element = element_in w } ∷ [])
  one_kept short =
      each_last (kept_at after) 0 k
      ∙ ap₂ (λ (l : List KeptFrame) (x : KeptFrame). l ++ (x ∷ []))
      (each_alike (kept_at after) (kept_at s) 0 k (λ i m. let below : i < k = omega arith in earlier_same i below (short i below)))
      (ap (kept_at after) (zero-add k) ∙ new_kept)

  short_after : ShortBelow s k → ShortBelow after (k + 1)
  short_after short =
      below_more (λ (i : ℕ). Short (kept_at after i)) k
      (λ i m. subst Short (sym (earlier_same i m (short i m))) (short i m))
      (subst Short (sym new_kept) (omega (arith, length-drop 6 w, f.short)))

-- ---- frames one after another

kept_as : ℕ → List ℕ → KeptFrame
kept_as sender w = record { sender = sender; element = element_in w }

module _ (sender : ℕ) where
  all_kept : (ws : List (List ℕ)) → All InSlot ws → (s : List ℕ) → length s ≡ 33792 → (k : ℕ) → k + length ws ≤ 128 → ShortBelow s k
      → kept_in (put_frames s sender k ws) (k + length ws) ≡ kept_in s k ++ map (kept_as sender) ws
  unfolding put_frames All kept_as
  all_kept [] fs s long k few short = ap (kept_in s) (add-zero k) ∙ sym (append-nil (kept_in s k))
  all_kept (w ∷ ws) fs s long k few short =
      let l : k < 128 = omega arith in
      let s' : List ℕ = overwrite s (264 * k) (sender ∷ w) in
      let one : suc k ≡ k + 1 = omega arith in
      let place : k + length (w ∷ ws) ≡ k + 1 + length ws = omega arith in
      let new : kept_in s' (k + 1) ≡ kept_in s k ++ (kept_as sender w ∷ []) = ap (kept_in s') (sym one) ∙ one_kept s long sender k l w fs.0 short in
      ap (kept_in (put_frames s' sender (k + 1) ws)) place
      ∙ all_kept ws fs.1 s' (after_long s long sender k l w fs.0 ∙ long) (k + 1) (omega arith) (short_after s long sender k l w fs.0 short)
      ∙ ap (λ (t : List KeptFrame). t ++ map (kept_as sender) ws) new
      ∙ append_assoc (kept_in s k) (kept_as sender w ∷ []) (map (kept_as sender) ws)

-- ---- the frames of a call

written_in_slot : (f : Frame) → FrameFits f → InSlot (written f)
written_in_slot f fits =
    let told = length_told f [] in
    let exact : length (written f) ≡ 8 + get_or (written f) 7 0 = sym (rw (append-nil (written f)) at told) in
    record {
      long = exact;
      short = omega (arith, frame_length f.receiver f.element, length_octet (kind_of f.element) (count_of f.element) fits.element.count);
    }

as_written : (sender : ℕ) (frames : List Frame) → map (kept_as sender) (map written frames) ≡ kept_from sender frames
unfolding kept_as
as_written sender [] = refl
as_written sender (f ∷ frames) = ap₂ ◌∷◌ (ap (λ (e : List ℕ). record { sender = sender; element = e }) (element_in_lem f)) (as_written sender frames)

pub frames_kept : (sender : ℕ) (frames : List Frame) → FramesFit frames → (s : List ℕ) → length s ≡ 33792 → (k : ℕ) → k + length frames ≤ 128 → ShortBelow s k
    → kept_in (put_frames s sender k (map written frames)) (k + length frames) ≡ kept_in s k ++ kept_from sender frames
frames_kept sender frames fit s long k few short =
    let many : length (map written frames) ≡ length frames = length-map frames written in
    ap (λ (n : ℕ). kept_in (put_frames s sender k (map written frames)) (k + n)) (sym many)
    ∙ all_kept sender (map written frames) (all_map InSlot FrameFits written written_in_slot frames fit) s long k (rw many few) short
    ∙ ap (λ (t : List KeptFrame). kept_in s k ++ t) (as_written sender frames)

-- The frames of a call are whole in its output.
held : (frames : List Frame) (rest : List ℕ) → Holds (length frames) (frame_octets frames ++ rest)
unfolding Holds frame_octets flat_map
held [] rest = tt
held (f ∷ frames) rest =
    let others : List ℕ = frame_octets frames ++ rest in
    let long : length (written f) ≡ 8 + get_or (written f ++ others) 7 0 = sym (length_told f others) in
    subst (Holds (suc (length frames))) (sym (append_assoc (written f) (frame_octets frames) rest))
    (omega (arith, long, length-append (written f) others), subst (Holds (length frames)) (sym (drop_at (written f) others _ long)) (held frames rest))

pub output_holds : (output : List ℕ) (frames : List Frame) → length (frame_octets frames) ≤ length output
    → Holds (length frames) (overwrite output 0 (frame_octets frames))
output_holds output frames room = subst (Holds (length frames)) (sym (after_is output frames room)) (held frames (drop (length (frame_octets frames)) output))
