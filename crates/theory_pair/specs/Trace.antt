-- What a program that walks back through the tables owes, and gets: each segment as a list, built from its right end;
-- each row's path, built stage by stage; and the placement written on the way, which has the paths' poses.
use Rattle.std.specs.Prelude.{◌≡◌, ℕ}
use mathlib.Core.List.{List, Memᴰ as In}
use Rattle.theory_pair.specs.Segment.{Choice}

-- ---- the placement has the path's poses

abbrev pub Obeys : {A : Type 0} → (ℕ → A) → List (Choice A) → Type 0
Obeys {A = A} g p = (c : Choice A) → In c p → g c.0 ≡ c.1
