-- The codes of a trade, and the two families.
-- side_of: code 0 is pay, any other receive (limits allow 1 only).
-- benchmark_code: 0 MIBOR, 1 MIOIS, 2 MIFOR, 3 modified MIFOR.
-- family_of: code 0 is the overnight family, any other the forward one (a call that names a family allows 1 only).
-- first_benchmark, second_benchmark: the two benchmarks of a family.
use Rattle.std.specs.Prelude.{ℕ, ◌==◌, if◌then◌else◌}
use Rattle.tables.specs.declared.codes.Side.{Side}
use Rattle.tables.specs.declared.codes.Side.TheVariants.{Pay, Receive}
use Rattle.tables.specs.declared.codes.Benchmark.{Benchmark}
use Rattle.tables.specs.declared.codes.Benchmark.TheVariants.{Mibor, Miois, Mifor, ModifiedMifor}
use Rattle.tables.specs.declared.codes.Family.{Family}
use Rattle.tables.specs.declared.codes.Family.TheVariants.{Overnight, Forward}

abbrev pub side_of : ℕ → Side
side_of code = if code == 0 then Pay else Receive

abbrev pub benchmark_code : Benchmark → ℕ
benchmark_code Mibor = 0
benchmark_code Miois = 1
benchmark_code Mifor = 2
benchmark_code ModifiedMifor = 3

abbrev pub family_of : ℕ → Family
family_of code = if code == 0 then Overnight else Forward

abbrev pub first_benchmark : Family → Benchmark
first_benchmark Overnight = Mibor
first_benchmark Forward = Mifor

abbrev pub second_benchmark : Family → Benchmark
second_benchmark Overnight = Miois
second_benchmark Forward = ModifiedMifor
