use Rattle.std.proofs.Common.{rules}
use Rattle.function.proofs.Told.Orders.{edge_entry_told}
use Rattle.function.proofs.function.Function.edge_entry.Goals as goal

pub returns-in_err-edge_place : goal.returns-in_err-edge_place
returns-in_err-edge_place c f h = let e = edge_entry_told c.args.self f h c.args.block.0 c.args.k in search rules

pub returns : goal.returns
returns c f h = let e = edge_entry_told c.args.self f h c.args.block.0 c.args.k in search rules
