use Rattle.std.proofs.Common.{arith}
use Rattle.ng_layout.proofs.rows.put.Goals as goal

pub put_u8-requires : goal.put_u8-requires
put_u8-requires c = grind arith

pub put_u16-requires : goal.put_u16-requires
put_u16-requires c = grind arith

pub put_u64-requires : goal.put_u64-requires
put_u64-requires c = grind arith

pub put_i64-requires : goal.put_i64-requires
put_i64-requires c = grind arith

pub returns-in-U8-clause-is : goal.returns-in-U8-clause-is
returns-in-U8-clause-is c = grind arith

pub returns-in-U8-clause-below : goal.returns-in-U8-clause-below
returns-in-U8-clause-below c = grind arith

pub returns-in-U8-clause-beyond : goal.returns-in-U8-clause-beyond
returns-in-U8-clause-beyond c = grind arith

pub returns-in-U16-clause-is : goal.returns-in-U16-clause-is
returns-in-U16-clause-is c = grind arith

pub returns-in-U16-clause-below : goal.returns-in-U16-clause-below
returns-in-U16-clause-below c = grind arith

pub returns-in-U16-clause-beyond : goal.returns-in-U16-clause-beyond
returns-in-U16-clause-beyond c = grind arith

pub returns-in-U64-clause-is : goal.returns-in-U64-clause-is
returns-in-U64-clause-is c = grind arith

pub returns-in-U64-clause-below : goal.returns-in-U64-clause-below
returns-in-U64-clause-below c = grind arith

pub returns-in-U64-clause-beyond : goal.returns-in-U64-clause-beyond
returns-in-U64-clause-beyond c = grind arith

pub returns-in-I64-clause-is : goal.returns-in-I64-clause-is
returns-in-I64-clause-is c = grind arith

pub returns-in-I64-clause-below : goal.returns-in-I64-clause-below
returns-in-I64-clause-below c = grind arith

pub returns-in-I64-clause-beyond : goal.returns-in-I64-clause-beyond
returns-in-I64-clause-beyond c = grind arith
