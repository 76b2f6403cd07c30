use Rattle.ng_step.proofs.PromiseLemmas.{ends, follows, stays, keeps}
use Rattle.ng_step.proofs.ArcPathLemmas.{follows_path}
use Rattle.ng_step.proofs.stepper.Stepper.new.Goals as goal

pub returns-in-Line-clause-ends : goal.returns-in-Line-clause-ends
returns-in-Line-clause-ends c = ends c.args.segment.now c.args.geometry.now

pub returns-in-Line-clause-follows : goal.returns-in-Line-clause-follows
returns-in-Line-clause-follows c = follows c.args.segment.now c.args.geometry.now

pub returns-in-Line-clause-stays : goal.returns-in-Line-clause-stays
returns-in-Line-clause-stays c = stays c.args.segment.now c.args.geometry.now

pub returns-in-Arc-clause-ends : goal.returns-in-Arc-clause-ends
returns-in-Arc-clause-ends c = ends c.args.segment.now c.args.geometry.now

pub returns-in-Arc-clause-keeps : goal.returns-in-Arc-clause-keeps
returns-in-Arc-clause-keeps c = keeps c.args.segment.now c.args.geometry.now

pub returns-in-Arc-clause-follows : goal.returns-in-Arc-clause-follows
returns-in-Arc-clause-follows c = follows c.args.segment.now c.args.geometry.now

pub returns-in-Arc-clause-stays : goal.returns-in-Arc-clause-stays
returns-in-Arc-clause-stays c = stays c.args.segment.now c.args.geometry.now

pub returns-in-Arc-clause-path : goal.returns-in-Arc-clause-path
returns-in-Arc-clause-path c = follows_path c.args.segment.now c.args.geometry.now
