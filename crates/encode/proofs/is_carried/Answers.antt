-- `encode::is_carried` meets its contract, by the laws of Carries.
-- Assumes nothing.
use Rattle.encode.proofs.Carries.{few_carried, wide_carried, narrow_carried}
use Rattle.encode.proofs.is_carried.Goals as goal

pub returns-then-array-le-MOST_NARROW : goal.returns-then-array-le-MOST_NARROW
returns-then-array-le-MOST_NARROW c = few_carried c.args.kind c.requires c.if-array-le-MOST_NARROW.true

pub returns-in-Four : goal.returns-in-Four
returns-in-Four c = narrow_carried c.args.kind c.requires c.in-Ragged.is c.in-Four.is c.bytes_left.ensures

pub returns-in-Eight : goal.returns-in-Eight
returns-in-Eight c = wide_carried c.args.kind c.requires c.in-Ragged.is c.in-Eight.is
