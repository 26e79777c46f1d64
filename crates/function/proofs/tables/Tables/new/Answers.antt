use Rattle.function.proofs.tables.Tables.new.Goals as goal

pub returns : goal.returns
returns c = λ i. record {
  blocks = c.new.ensures i;
  insts = c.new-2.ensures i;
  values = c.new-3.ensures i;
  numbers = c.new-4.ensures i;
  uses = c.new-5.ensures i;
  destinations = c.new-6.ensures i;
  order = c.new-7.ensures i;
  block_entries = c.new-8.ensures i;
  edge_entries = c.new-9.ensures i;
}
