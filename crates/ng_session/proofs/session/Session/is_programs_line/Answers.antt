use Rattle.std.proofs.Common.{arith}
use Rattle.ng_session.proofs.session.Session.is_programs_line.Goals as goal

pub returns-in-Program-clause-yes : goal.returns-in-Program-clause-yes
returns-in-Program-clause-yes g c = grind arith

pub returns-in-Program-clause-no : goal.returns-in-Program-clause-no
returns-in-Program-clause-no g c = grind arith

pub returns-in-Program-clause-stays : goal.returns-in-Program-clause-stays
returns-in-Program-clause-stays g c = grind arith

pub returns-in-Mdi-clause-yes : goal.returns-in-Mdi-clause-yes
returns-in-Mdi-clause-yes g c = grind arith

pub returns-in-Mdi-clause-no : goal.returns-in-Mdi-clause-no
returns-in-Mdi-clause-no g c = grind arith

pub returns-in-Mdi-clause-stays : goal.returns-in-Mdi-clause-stays
returns-in-Mdi-clause-stays g c = grind arith

pub returns-in-None-clause-yes : goal.returns-in-None-clause-yes
returns-in-None-clause-yes g c = grind arith

pub returns-in-None-clause-no : goal.returns-in-None-clause-no
returns-in-None-clause-no g c = grind arith

pub returns-in-None-clause-stays : goal.returns-in-None-clause-stays
returns-in-None-clause-stays g c = grind arith
