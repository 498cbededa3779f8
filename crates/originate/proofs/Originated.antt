-- Laws of the exits of announce and root request, as the proofs of their functions need them. An ask uses the laws of a
-- request.
use Rattle.rules.specs.Decision.{Decision}
use Rattle.refusals.specs.declared.Refusal.{Refusal}
use Rattle.std.specs.Prelude.{Ok, ⊤, Err}
use Prim.Native.Nat.{ℕ, ◌+◌, ◌*◌}
use mathlib.Core.Path.{◌≡◌, refl, sym, ap, ap₂, ◌∙◌}
use mathlib.Core.Bool.{Bool, true, false, not}
use mathlib.Core.List.{List, [], ◌∷◌, append-nil, flat_map}
use lib.ListN.{length}
use native.Mathlib.Omega.{arith}
use Rattle.octets.specs.LittleEndian.{overwrite}
use Rattle.layout.specs.declared.row.Head.{Head}
use Rattle.layout.specs.Layout.{head_at, put_head}
use Rattle.element.specs.declared.Kind.TheVariants.{Rreq}
use Rattle.element.specs.declared.PathInfo.{PathInfo}
use Rattle.element.specs.declared.Target.{Target}
use Rattle.element.specs.Element.{Element, rann, rreq, rreq_numbers}
use Rattle.element.specs.Entries.{target_octets}
use Rattle.element.specs.Lists.{all_ones}
use Rattle.element.specs.Octets.{frame_start, write_frame}
use Rattle.element.proofs.Sizes.{frame_length}
use Rattle.writing.proofs.Written.{finished}
use Rattle.rules.specs.Exit.{lend, Exit, at_exit}
use Rattle.rules.specs.Onward.{to_all}
use Rattle.rules.specs.Originate.{numbered_head, own_path, own_request, announced, requested, originating, announcing, announce, is_root_flags, root_target, requesting_as_root, root_request}
use Rattle.rules.proofs.FrameOctets.{one_frame}
use Rattle.calls.specs.declared.Emitted.{Emitted}
use Rattle.calls.specs.Answers.{answer_to, exit_of}
use Rattle.calls.proofs.Checks.{refusal, acceptance, accepted_exit}

-- ---- one frame to all ones

one_frame_exit : (t output u v : List ℕ) (n : ℕ) (e : Element) → v ≡ overwrite output 0 (write_frame all_ones e) → n ≡ length (write_frame all_ones e)
    → (em : Emitted) → em ≡ record { frames = 1; octets = n } → exit_of (Ok em) (lend u) v ≡ at_exit (lend t) output (Ok (record { lent = lend u; frames = to_all e }))
one_frame_exit t output u v n e ve ne em eme =
    accepted_exit (lend t) output (record { lent = lend u; frames = to_all e }) (lend u) v em refl (rw one_frame ve) (eme ∙ rw (one_frame, ne))

-- ---- announce

pub announced_exit : (t output u v : List ℕ) (flags lifetime : ℕ) (h₀ h : Head) → h₀ ≡ head_at t → h ≡ numbered_head false h₀ → u ≡ put_head t h
    → (p : PathInfo) → p ≡ own_path h flags lifetime → v ≡ overwrite output 0 (write_frame all_ones (rann p)) → (octets : ℕ) → octets ≡ 0 + 29
    → (em : Emitted) → em ≡ record { frames = 1; octets = octets } → exit_of (Ok em) (lend u) v ≡ at_exit (lend t) output (Ok (announced (lend t) flags lifetime))
unfolding announced
announced_exit t output u v flags lifetime h₀ h e₀ he ue p pe ve octets size em eme =
    one_frame_exit t output u v octets (rann p) ve (size ∙ sym (frame_length all_ones (rann p))) em eme
    ∙ ap₂ (λ (w : List ℕ) (q : PathInfo). at_exit (lend t) output (Ok (record { lent = lend w; frames = to_all (rann q) })))
    (ue ∙ ap (put_head t) stepped) (pe ∙ ap (λ (k : Head). own_path k flags lifetime) stepped)
  where
    stepped : h ≡ numbered_head false (head_at t)
    stepped = he ∙ ap (numbered_head false) e₀

-- ---- a request after its start is written

pub request_started : (s t : List ℕ) (h : Head) (flags lifetime n : ℕ) (p : PathInfo) → p ≡ own_path h flags lifetime
    → t ≡ overwrite s 0 (frame_start all_ones Rreq n (rreq_numbers (record { request = h.request; path = p })))
    → t ≡ overwrite s 0 (frame_start all_ones Rreq n (rreq_numbers (own_request h flags lifetime)))
request_started s t h flags lifetime n p pe te =
    te ∙ ap (λ (q : PathInfo). overwrite s 0 (frame_start all_ones Rreq n (rreq_numbers (record { request = h.request; path = q })))) pe

-- Its destinations follow the start.
pub request_finished : (w output v : List ℕ) (h : Head) (flags lifetime : ℕ) (targets : List Target) (n : ℕ) → n ≡ length targets
    → w ≡ overwrite output 0 (frame_start all_ones Rreq n (rreq_numbers (own_request h flags lifetime)))
    → (at : ℕ) → at ≡ 34 → v ≡ overwrite w at (flat_map target_octets targets) → v ≡ overwrite output 0 (write_frame all_ones (rreq (own_request h flags lifetime) targets))
request_finished w output v h flags lifetime targets n ne we at ate ve =
    finished all_ones output w v 0 at (rreq (own_request h flags lifetime) targets) n ne we ate ve

-- Its head is stored.
module _ (t output u v : List ℕ) (flags lifetime : ℕ) (h₀ h : Head) (e₀ : h₀ ≡ head_at t) (he : h ≡ numbered_head true h₀) (ue : u ≡ put_head t h) where
  pub requested_exit : (targets : List Target) (n : ℕ) → n ≡ length targets
      → v ≡ overwrite output 0 (write_frame all_ones (rreq (own_request h flags lifetime) targets)) → (octets : ℕ) → octets ≡ 34 + 11 * n
      → (em : Emitted) → em ≡ record { frames = 1; octets = octets } → exit_of (Ok em) (lend u) v ≡ at_exit (lend t) output (Ok (requested (lend t) flags lifetime targets))
  unfolding requested
  requested_exit targets n ne ve octets size em eme =
      one_frame_exit t output u v octets (rreq (own_request h flags lifetime) targets) ve
      (omega (arith, size, ne, frame_length all_ones (rreq (own_request h flags lifetime) targets))) em eme
      ∙ ap₂ (λ (x : List ℕ) (k : Head). at_exit (lend t) output (Ok (record { lent = lend x; frames = to_all (rreq (own_request k flags lifetime) targets) })))
      (ue ∙ ap (put_head t) stepped) stepped
    where
      stepped : h ≡ numbered_head true (head_at t)
      stepped = he ∙ ap (numbered_head true) e₀

  -- A root request has one destination.
  pub root_exit : (w : List ℕ) → w ≡ overwrite output 0 (frame_start all_ones Rreq 1 (rreq_numbers (own_request h flags lifetime)))
      → (at : ℕ) → at ≡ 34 → (q : Target) → q ≡ root_target → v ≡ overwrite w at (target_octets q) → (octets : ℕ) → octets ≡ at + 11
      → (em : Emitted) → em ≡ record { frames = 1; octets = octets }
      → exit_of (Ok em) (lend u) v ≡ at_exit (lend t) output (Ok (requested (lend t) flags lifetime (root_target ∷ [])))
  unfolding flat_map
  root_exit w we at ate q qe ve octets size =
      requested_exit (root_target ∷ []) 1 refl
      (request_finished w output v h flags lifetime (root_target ∷ []) 1 refl we at ate
      (ve ∙ ap (λ (k : Target). overwrite w at (target_octets k)) qe ∙ ap (overwrite w at) (sym (append-nil (target_octets root_target)))))
      octets (omega (arith, size, ate))

-- ---- from the answer of the check

module _ (t output : List ℕ) (flags lifetime : ℕ) (a : Decision ⊤) (ae : a ≡ answer_to (announcing (lend t) (length output) flags lifetime).checks) where
  pub announce_refused : (n : Refusal) → a ≡ Err n → exit_of (Err n) (lend t) output ≡ at_exit (lend t) output (announce (lend t) (length output) flags lifetime)
  unfolding announce
  announce_refused = refusal (lend t) output (announcing (lend t) (length output) flags lifetime) a ae

  pub announce_accepted : (done : ⊤) → a ≡ Ok done → (x : Exit) → x ≡ at_exit (lend t) output (Ok (announced (lend t) flags lifetime))
      → x ≡ at_exit (lend t) output (announce (lend t) (length output) flags lifetime)
  unfolding announce
  announce_accepted = acceptance (lend t) output (announcing (lend t) (length output) flags lifetime) a ae

module _ (t output : List ℕ) (flags lifetime : ℕ) (b : Bool) (be : b ≡ is_root_flags flags) (a : Decision ⊤)
    (ae : a ≡ answer_to (originating {A = Unit {0}} t (length output) (not b) lifetime tt).checks) where
  root_checks : a ≡ answer_to (requesting_as_root (lend t) (length output) flags lifetime).checks
  root_checks = ae ∙ ap (λ (c : Bool). answer_to (originating {A = Unit {0}} t (length output) (not c) lifetime tt).checks) be

  pub root_refused : (n : Refusal) → a ≡ Err n → exit_of (Err n) (lend t) output ≡ at_exit (lend t) output (root_request (lend t) (length output) flags lifetime)
  unfolding root_request
  root_refused = refusal (lend t) output (requesting_as_root (lend t) (length output) flags lifetime) a root_checks

  pub root_accepted : (done : ⊤) → a ≡ Ok done → (x : Exit) → x ≡ at_exit (lend t) output (Ok (requested (lend t) flags lifetime (root_target ∷ [])))
      → x ≡ at_exit (lend t) output (root_request (lend t) (length output) flags lifetime)
  unfolding root_request
  root_accepted = acceptance (lend t) output (requesting_as_root (lend t) (length output) flags lifetime) a root_checks
