-- What times stay below.
use Rattle.std.specs.Prelude.{ℕ, ◌^◌}

-- Times, the watermark, gap and lateness are below this.
abbrev pub time_limit : ℕ
time_limit = 2 ^ 40
