use Rattle.std.proofs.Common.{ℕ, List, sym, ◌∙◌, ap, subst}
use Rattle.ng_session.specs.Planned.{drops_plan}
use Rattle.ng_session.specs.declared.event.Event.{Event}
use Rattle.ng_session.specs.declared.event.Event.TheVariants as event
use Rattle.ng_core.specs.Events.{CarriesOutEvent}
use Rattle.ng_core.proofs.controller.Controller.carry_out.Goals as goal

pub returns-in-Load : goal.returns-in-Load
returns-in-Load g c =
    subst (λ (e : Event _). CarriesOutEvent g.R.Rig.seen e c.load.result c.args.self.now c.load.new.self)
    (ap (λ (text : List ℕ). event.Load text) c.bytes.ensures ∙ sym c.in-Load.is) c.load.ensures

pub returns-in-Reference : goal.returns-in-Reference
returns-in-Reference g c =
    subst (λ (e : Event _). CarriesOutEvent g.R.Rig.seen e c.reference.result c.args.self.now c.reference.new.self) (sym c.in-Reference.is) c.reference.ensures

pub returns-in-Resume : goal.returns-in-Resume
returns-in-Resume g c =
    subst (λ (e : Event _). CarriesOutEvent g.R.Rig.seen e c.resume.result c.args.self.now c.resume.new.self) (sym c.in-Resume.is) c.resume.ensures

pub returns-in-Abandon : goal.returns-in-Abandon
returns-in-Abandon g c =
    subst (λ (e : Event _). CarriesOutEvent g.R.Rig.seen e c.abandon.result c.args.self.now c.abandon.new.self) (sym c.in-Abandon.is) c.abandon.ensures

pub returns-in-Tick : goal.returns-in-Tick
returns-in-Tick g c =
    subst (λ (e : Event _). CarriesOutEvent g.R.Rig.seen e c.tick.result c.args.self.now c.tick.new.self) (sym c.in-Tick.is) c.tick.ensures

pub load-requires-clause-alone : goal.load-requires-clause-alone
load-requires-clause-alone g c = c.requires.alone (ap (λ (e : Event _). drops_plan e) c.in-Load.is)

pub reference-requires-clause-alone : goal.reference-requires-clause-alone
reference-requires-clause-alone g c = c.requires.alone (ap (λ (e : Event _). drops_plan e) c.in-Reference.is)

pub resume-requires-clause-alone : goal.resume-requires-clause-alone
resume-requires-clause-alone g c = c.requires.alone (ap (λ (e : Event _). drops_plan e) c.in-Resume.is)

pub abandon-requires-clause-alone : goal.abandon-requires-clause-alone
abandon-requires-clause-alone g c = c.requires.alone (ap (λ (e : Event _). drops_plan e) c.in-Abandon.is)

pub returns-in-Tool : goal.returns-in-Tool
returns-in-Tool g c =
    subst (λ (e : Event _). CarriesOutEvent g.R.Rig.seen e c.tool.result c.args.self.now c.tool.new.self) (sym c.in-Tool.is) c.tool.ensures

pub tool-requires-clause-alone : goal.tool-requires-clause-alone
tool-requires-clause-alone g c = c.requires.alone (ap (λ (e : Event _). drops_plan e) c.in-Tool.is)
