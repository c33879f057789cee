-- What the functions within the pass ask of a part, and by which rule a part is there.
use Rattle.std.specs.Prelude.{◌+◌, ◌^◌, ◌<◌, ◌≤◌, length}
use Rattle.image.specs.declared.item.Part.{Part}
use Rattle.image.specs.declared.section.Section.{Section}
use Rattle.image.specs.declared.section.Section.TheVariants.{Channels, Shapes, Signatures, Tuples, Blocks}
use Rattle.rules.specs.declared.rule.NamingRule.{NamingRule}
use Rattle.rules.specs.declared.rule.NamingRule.TheVariants.{NoSuchChannel, NoSuchShape, NoSuchSignature, NoSuchTuple, NoSuchBlock}

-- a part has a head, and no place in it is too large a number
abbrev pub IsPlaced : Part → Type 0
IsPlaced p = (1 ≤ length p.words.now) × (p.place + length p.words.now < 2 ^ 64)

-- the rule that a part of the section is there
abbrev pub no_such : Section → NamingRule
no_such Channels = NoSuchChannel
no_such Shapes = NoSuchShape
no_such Signatures = NoSuchSignature
no_such Tuples = NoSuchTuple
no_such Blocks = NoSuchBlock
