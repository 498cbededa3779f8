-- Defines the run of the bench: its start, the commands of an input one after another, and the text that it prints. PROTOCOL,
-- 'Bench'.
use Rattle.std.specs.Prelude.{ℕ, zero, suc, ◌+◌, Bool, false, ◌||◌, cond, List, [], ◌++◌, eqb, length, drop}
use Rattle.octets.specs.LittleEndian.{number_at, zeros}
use Rattle.bench_links.specs.Links.{no_links}
use Rattle.bench_rules.specs.Bench.{Bench, Done, fault, line, WithLinks}
use Rattle.bench_rules.specs.Interpreter.{length_of, command}
use Rattle.bench_rules.specs.Text.{line_text, fault_text}

-- Holds where the bench stands between two commands: what it holds, the links, and the offset of the next command in the
-- input.
pub record Standing : Type 0 where
  pub bench : Bench
  pub links : List (List ℕ)
  pub offset : ℕ

-- At its start the bench has no points, no frames and no links, and the clock is 0.
abbrev pub at_start : Standing
at_start =
    record {
      bench = record { tables = zeros 8704; points = 0; frames = []; clock = 0 };
      links = no_links;
      offset = 0;
    }

-- Holds the text printed so far, and where the bench stands. Once a fault has ended the bench, only the text is left.
pub data Course : Type 0 where
  going : (text : List ℕ) → Standing → Course
  ended : (text : List ℕ) → Course

-- After command c the bench prints its line and continues with the octets after the command. After a fault the bench prints E and
-- the offset, and ends.
abbrev pub after_command : (text : List ℕ) → Standing → (c : ℕ) → List (List ℕ) → Done → Course
after_command text x c links fault = ended (text ++ fault_text x.offset)
after_command text x c links (line answer third b) =
    going (text ++ line_text c answer third) (record { bench = b; links = links; offset = x.offset + length_of c })

-- `obey_first` obeys the command at the start of s, and `behind` returns the octets after that command.
unfoldable pub obey_first : (text : List ℕ) → Standing → List ℕ → Course
obey_first text x s =
    let w : WithLinks = command x.bench x.links s in
    after_command text x (number_at 1 s 0) w.links w.done

abbrev pub behind : List ℕ → List ℕ
behind s = drop (length_of (number_at 1 s 0)) s

-- A bench that has ended stays ended.
abbrev pub unless_ended : Course → ((text : List ℕ) → Standing → Course) → Course
unless_ended (ended text) further = ended text
unless_ended (going text x) further = further text x

-- Obeys commands one after another, at most n. It stops when the octets end, when a fault ends the bench, or when `pauses`
-- holds for the text so far and the octets that are left.
unfoldable pub obey_until : (pauses : (text s : List ℕ) → Bool) → (n : ℕ) → Course → List ℕ → Course
obey_until pauses zero c s = c
obey_until pauses (suc n) c s =
    unless_ended c (λ text x. cond (eqb (length s) 0 || pauses text s) c (obey_until pauses n (obey_first text x s) (behind s)))

-- `obey_all` obeys all commands in s, without a pause. The length of s bounds their number, because a command has at least one
-- octet.
abbrev pub never : (text s : List ℕ) → Bool
never text s = false

abbrev pub obey_all : Course → List ℕ → Course
obey_all c s = obey_until never (length s) c s

-- `text_of` returns the text of a course, and `text_for` the text that the bench prints for an input.
abbrev pub text_of : Course → List ℕ
text_of (going text x) = text
text_of (ended text) = text

unfoldable pub text_for : (input : List ℕ) → List ℕ
text_for input = text_of (obey_all (going [] at_start) input)
