-- The sectors on which the meaning of an image doesn't depend (own).
use Rattle.std.specs.Prelude.{ℕ, ◌+◌, ◌<◌, ◌≤◌}

pub record IsAmong (first size n : ℕ) : Type 0 where
  pub from : first ≤ n
  pub to : n < first + size
