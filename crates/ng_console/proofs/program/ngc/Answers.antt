use Rattle.ng_console.proofs.program.ngc.Goals as goal

pub returns-in-Ok-clause-refused : goal.returns-in-Ok-clause-refused
returns-in-Ok-clause-refused g c = λ none. absurd (none c.in-Ok.job c.in-Ok.ensures.job)
