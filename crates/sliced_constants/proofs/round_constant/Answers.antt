use Rattle.std.proofs.Common.{◌%◌, mod-lt, lit<}
use Rattle.sliced_constants.specs.declared.TheConstants.{CONSTANTS}
use Rattle.sliced_constants.proofs.Table.{agree, row_test, table_test, row_right}
use Rattle.sliced_constants.proofs.round_constant.Goals as goal

-- the table of the code passes the test, which antt computes
pub returns : goal.returns
unfolding agree row_test table_test
returns c = row_right CONSTANTS (c.args.round % 42) (mod-lt c.args.round (lit< tt)) tt (record { even = c.new.result; odd = c.new-2.result }) c.new.ensures c.new-2.ensures
