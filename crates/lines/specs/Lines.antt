-- What is kept of a row of input: a byte moves or stays, and none is lost. The line end is the byte 10.
use Rattle.std.specs.Prelude.{ℕ, ◌+◌, ◌-◌, ◌≤◌, ◌<◌, ◌≡◌, true, false, List, length, get_or, take, drop}
use Rattle.lines.specs.declared.Held.{Held}

-- the place `r`, where nothing from `from` on ends a line before it, and where a line ends unless the bytes do
pub record LineEnd (bytes : List ℕ) (from r : ℕ) : Type 0 where
  pub low : from ≤ r
  pub none_before : (k : ℕ) → k < r → from ≤ k → get_or bytes k 0 ≡ 10 → ⊥
  pub ends : r < length bytes → get_or bytes r 0 ≡ 10

-- of a row, the bytes from `from` up to `end` now stand at the front, and there are r of them
pub record Kept (row : List ℕ) (from end : ℕ) (after : List ℕ) (r : ℕ) : Type 0 where
  pub long : length after ≡ length row
  pub count : from ≤ end → end ≤ length row → r ≡ end - from
  pub kept : from ≤ end → end ≤ length row → take r after ≡ take r (drop from row)

-- the line that ends at a place is taken: the next one begins behind its end, and what is held is as it was
pub record Taken (held : Held) (place : ℕ) (r : Held) : Type 0 where
  pub start : place < held.end → r.start ≡ place + 1
  pub seen : place < held.end → r.seen ≡ place + 1
  pub end : r.end ≡ held.end

-- nothing is held, and the input is open
pub record Unread (r : Held) : Type 0 where
  pub start : r.start ≡ 0
  pub seen : r.seen ≡ 0
  pub end : r.end ≡ 0
  pub unclosed : r.open ≡ true

-- nothing more is read, and nothing held is left
pub record Stopped (place : ℕ) (r : Held) : Type 0 where
  pub start : r.start ≡ place
  pub seen : r.seen ≡ place
  pub end : r.end ≡ place
  pub closed : r.open ≡ false

-- the bytes held stay where they are at the front, and what was read is behind them; the input stays open only where something was
pub record Behind (row : List ℕ) (held : ℕ) (after : List ℕ) (r : Held) : Type 0 where
  pub stay : take held after ≡ take held row
  pub seen : r.seen ≡ held
  pub more : held ≤ r.end
  pub brought : r.open ≡ true → r.seen < r.end
  pub front : r.open ≡ true → r.start ≡ 0

-- a turn that read: the bytes held, without the lines that were taken, stand at the front, and what was read is behind them
pub record Refilled (row : List ℕ) (held : Held) (after : List ℕ) (r : Held) : Type 0 where
  pub kept : held.start ≤ held.end → held.end ≤ length row → take (held.end - held.start) after ≡ take (held.end - held.start) (drop held.start row)
  pub seen : held.start ≤ held.end → held.end ≤ length row → r.seen ≡ held.end - held.start
  pub more : r.seen ≤ r.end
  pub brought : r.open ≡ true → r.seen < r.end
  pub front : r.open ≡ true → r.start ≡ 0
