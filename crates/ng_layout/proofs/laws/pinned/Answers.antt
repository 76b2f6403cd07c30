use Rattle.ng_layout.proofs.PinnedLemmas.{field-pinned, header-pinned, part-pinned, tool_part-pinned, text-pinned}
use Rattle.ng_layout.proofs.PinnedLemmas.{record_part-pinned}
use Rattle.ng_layout.proofs.laws.pinned.Goals as goal

pub returns-clause-field : goal.returns-clause-field
returns-clause-field c = field-pinned

pub returns-clause-header : goal.returns-clause-header
returns-clause-header c = header-pinned

pub returns-clause-part : goal.returns-clause-part
returns-clause-part c = part-pinned

pub returns-clause-tools : goal.returns-clause-tools
returns-clause-tools c = tool_part-pinned

pub returns-clause-text : goal.returns-clause-text
returns-clause-text c = text-pinned

pub returns-clause-record_part : goal.returns-clause-record_part
returns-clause-record_part c = record_part-pinned
