-- Where rows begin and end.
use Rattle.std.proofs.Common.{◌≡◌, ℕ, suc, ◌+◌, ◌-◌, ◌*◌, ◌<◌, ◌≤◌, ap, ◌∙◌, mul-le-mul_right, suc-mul, add-mul, mul-le-mul_left, mul-one, arith}

-- A row among n ends no later than the n rows.
pub row_ends : (w i n : ℕ) → i < n → i * w + w ≤ n * w
row_ends w i n h = rw suc-mul at (mul-le-mul_right {m = suc i} {n = n} w h)

pub rows_rise : (w m n : ℕ) → m ≤ n → m * w ≤ n * w
rows_rise w m n h = mul-le-mul_right w h

pub rows_left : (w m n : ℕ) → m ≤ n → (n - m) * w ≡ n * w - m * w
rows_left w m n h =
    let whole : n ≡ m + (n - m) = omega arith in
    let total : n * w ≡ m * w + (n - m) * w = ap (λ k. k * w) whole ∙ add-mul m (n - m) w in
    omega arith

-- A row has a cell at least.
pub rows_many : (w n : ℕ) → 0 < w → n ≤ n * w
rows_many w n h = rw mul-one at (mul-le-mul_left {m = 1} {n = w} n h)
