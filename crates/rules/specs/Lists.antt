-- Defines tests over the entries of a list, in the library's words, and a test of a value that may be absent.
use Rattle.std.specs.Prelude.{Bool, false, List, Option, None, Some}
use Rattle.std.specs.List.{filter as list_filter, list_all, list_any}

module _ {A : Type 0} where
  -- Reports whether some entry passes the test.
  abbrev pub any : (A → Bool) → List A → Bool
  any p xs = list_any p xs

  -- Reports whether every entry passes the test.
  abbrev pub all : (A → Bool) → List A → Bool
  all p xs = list_all p xs

  -- Returns the entries that pass the test, in order.
  abbrev pub filter : (A → Bool) → List A → List A
  filter p xs = list_filter p xs

  -- Reports whether there is a value and it passes the test.
  abbrev pub is_some_and : (A → Bool) → Option A → Bool
  is_some_and p None = false
  is_some_and p (Some x) = p x
