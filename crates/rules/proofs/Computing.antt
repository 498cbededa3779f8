-- To unfold `computing` is to unfold all definitions that it names. A call on given octets then computes, and a statement about a
-- worked example is proved by `refl`.
use mathlib.Core.List.{flat_map}
use Rattle.octets.specs.LittleEndian.{number_octets, number_at, overwrite, with_number, fields_at, with_fields, field_octets}
use Rattle.counters.specs.Numbers.{stepped, wrapped, newer, older}
use Rattle.counters.specs.Numbering.{advanced_for}
use Rattle.layout.specs.Address.{individual}
use Rattle.layout.specs.Layout.{sized, head_at, put_head, all_zero, row_at, put_row}
use Rattle.layout.specs.Row.{head_with, head_ok, is_free, is_unnumbered, is_other, status_ok, bounds_ok, is_held, row_ok, active, renewed, numbered, invalidated, raised, is_through}
use Rattle.table.specs.Table.{vacant, holds, find_row, row_for, active_next, free_rows, first_free, alone, is_table, fresh, place_for, store, freed, change_below, change_where}
use Rattle.element.specs.Layout.{known, kind_with, fits}
use Rattle.element.specs.Entries.{each, lost_at, lost_octets, numbered_at, numbered_octets, target_at, target_octets, item_at}
use Rattle.element.specs.Octets.{wrong_length, other_id, misfit, read_as, read_element, fixed_octets, write_element, write_frame}
use Rattle.element.specs.Lists.{addresses_from, allowed, any_forbidden, contains, has_duplicate, ones_beside_others}
use Rattle.element.specs.Flags.{bit, with_do, with_unknown}
use Rattle.rules.specs.Exit.{frame_octets, at_exit}
use Rattle.rules.specs.Fresh.{make_fresh}
use Rattle.rules.specs.Forget.{forget}
use Rattle.rules.specs.NextHop.{next_hop}
use Rattle.rules.specs.Learn.{expiry_of, subject_row, transmitter_row, takes_link, subject_learnt, transmitter_learnt, learnt}
use Rattle.rules.specs.Destinations.{reply, answered_number, answers_for, for_oneself, for_all_ones, for_another, answered, all_answered}
use Rattle.rules.specs.Onward.{onward, rann_onward, rreq_onward, rrep_onward}
use Rattle.rules.specs.Errors.{is_lost_by, matches, number_beside, is_match, erred_with, erred, broken, broken_entry, broken_entries, error_at, errors_for}
use Rattle.rules.specs.Receive.{has_bad_address, several_or_all, has_bad_list, is_low_ttl_reply, is_stale_for, is_stale, matches_nothing, rows_needed, rann_received, rrep_received, rreq_received, rerr_received, received, receive}
use Rattle.rules.specs.Originate.{numbered_head, own_path, announced, requested, items_fit, asked_by, asked_for, ask, announce, is_root_flags, root_request}
use Rattle.rules.specs.Break.{broken_off, break_neighbour}
use Rattle.rules.specs.Calls.{decision}
use Rattle.rules.specs.Walk.{table_at, side_by_side, has_later_clock, row_of_point, leads_to, follow, walk}
use Rattle.rules.proofs.Rulings.{listed}

unfoldable pub computing : Unit {0}
unfolding flat_map number_octets number_at overwrite with_number fields_at with_fields field_octets
    stepped advanced_for wrapped newer older
    individual sized head_at put_head all_zero row_at put_row head_with head_ok is_free is_unnumbered is_other status_ok bounds_ok is_held row_ok
    active renewed numbered invalidated raised vacant holds find_row row_for active_next free_rows first_free alone
    is_table fresh place_for store freed change_below change_where
    known kind_with fits each lost_at lost_octets numbered_at numbered_octets target_at target_octets item_at wrong_length other_id misfit
    read_as read_element fixed_octets write_element write_frame addresses_from allowed any_forbidden contains ones_beside_others has_duplicate
    bit with_do with_unknown frame_octets at_exit make_fresh forget next_hop
    expiry_of subject_row transmitter_row takes_link subject_learnt transmitter_learnt learnt
    reply answered_number answers_for for_oneself for_all_ones for_another answered all_answered
    onward rann_onward rreq_onward rrep_onward
    is_through is_lost_by matches number_beside is_match erred_with erred broken broken_entry broken_entries error_at errors_for
    has_bad_address several_or_all has_bad_list is_low_ttl_reply is_stale_for is_stale matches_nothing rows_needed
    rann_received rrep_received rreq_received rerr_received received listed receive
    numbered_head own_path announced requested items_fit asked_by asked_for ask announce is_root_flags root_request
    broken_off break_neighbour decision table_at side_by_side has_later_clock row_of_point leads_to follow walk
computing = tt
