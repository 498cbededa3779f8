-- Defines the number of each refusal and of each answer. PROTOCOL, 'Refusals'.
use Rattle.std.specs.Prelude.{ℕ, ⊤, Result, Ok, Err}
use Rattle.refusals.specs.declared.Refusal.{Refusal}
use Rattle.refusals.specs.declared.Refusal.TheVariants.{
  TableLength,
  ShortOutput,
  ClockTooLarge,
  BadNeighbour,
  NoLink,
  ElementLength,
  UnknownId,
  BadCount,
  BadAddress,
  BadList,
  NoLifetime,
  TooManyHops,
  MetricTooLarge,
  LowTtl,
  NotATable,
  OldClock,
  FromItself,
  AboutItself,
  Stale,
  NoMatch,
  NoRoom,
  NoNextHop,
  NotHeld,
}

abbrev pub number_of : Refusal → ℕ
number_of TableLength = 1
number_of ShortOutput = 2
number_of ClockTooLarge = 3
number_of BadNeighbour = 4
number_of NoLink = 5
number_of ElementLength = 6
number_of UnknownId = 7
number_of BadCount = 8
number_of BadAddress = 9
number_of BadList = 10
number_of NoLifetime = 11
number_of TooManyHops = 12
number_of MetricTooLarge = 13
number_of LowTtl = 14
number_of NotATable = 21
number_of OldClock = 22
number_of FromItself = 23
number_of AboutItself = 24
number_of Stale = 25
number_of NoMatch = 26
number_of NoRoom = 27
number_of NoNextHop = 28
number_of NotHeld = 29

-- An acceptance answers 0. A refusal answers its number.
abbrev pub answer_of : Result ⊤ Refusal → ℕ
answer_of (Ok u) = 0
answer_of (Err r) = number_of r
