-- Where a cell stands among a book's amounts.
use Rattle.std.proofs.Common.{ℕ, ◌+◌, ◌*◌, ◌<◌, ◌≤◌, arith}
use Rattle.std.proofs.lemmas.Nat.{row_fits}

-- a row is within the book's own cells
pub row_in : (p n c m i : ℕ) → m < p → i < n → (m * n + i) * c + c ≤ p * n * c
row_in p n c m i hm hi =
    let rows = row_fits m n p n hm (omega arith) in
    let row : m * n + i < p * n = omega arith in
    row_fits (m * n + i) c (p * n) c row (omega arith)

-- and so is a cell
pub place_in : (p n c m i k : ℕ) → m < p → i < n → k < c → (m * n + i) * c + k < p * n * c
place_in p n c m i k hm hi hk = omega (arith, row_in p n c m i hm hi)
