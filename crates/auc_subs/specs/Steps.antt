-- Tests that are made one after another.
use Rattle.std.specs.Prelude.{Result, Ok, Err}

-- one test, then what follows: the first test that fails gives its error
infixl 10 ◌>>=◌
abbrev pub ◌>>=◌ : {A B E : Type 0} → Result A E → (A → Result B E) → Result B E
(Ok x) >>= next = next x
(Err error) >>= next = Err error
