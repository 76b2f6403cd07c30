-- The text of a fault: its number, a blank and its name (own).
use Rattle.std.specs.Prelude.{ℕ, List, codes}
use Rattle.ng_num.specs.declared.fault.Fault.{Fault}
use Rattle.ng_num.specs.declared.fault.Fault.TheVariants.{Unreadable, LineTooLong, OutOfRange, BadIndex}
use Rattle.ng_num.specs.declared.fault.Fault.TheVariants.{BadArithmetic, RepeatedLetter, UnknownCode, LeftOutCode}
use Rattle.ng_num.specs.declared.fault.Fault.TheVariants.{GroupTwice, TooManyM, AxisTakenTwice, AxisUnused, NoAxis}
use Rattle.ng_num.specs.declared.fault.Fault.TheVariants.{NothingToSet, BadG53, RadiusArc, UnusedWord, Negative}
use Rattle.ng_num.specs.declared.fault.Fault.TheVariants.{BadSlot, BadL, BadSystem, NoDwell, NoH, CyclePlane, NoEnd}
use Rattle.ng_num.specs.declared.fault.Fault.TheVariants.{NoCentre, RadiiDiffer, ZeroRadius, CycleNoAxis, NoZ, NoR}
use Rattle.ng_num.specs.declared.fault.Fault.TheVariants.{RBelowZ, InverseTime, NegativeP, BadQ, SpindleStopped}
use Rattle.ng_num.specs.declared.fault.Fault.TheVariants.{NoFeed, OutsideTravel, NoProgramEnd, MissingPercent}
use Rattle.ng_num.specs.declared.fault.Fault.TheVariants.{DeviceFailed, NotFormatted, Damaged, CountersUsed}
use Rattle.ng_num.specs.declared.fault.Fault.TheVariants.{ProgramTooLong, Busy, NoProgram, PlaceUnknown}
use Rattle.ng_num.specs.declared.fault.Fault.TheVariants.{NothingHalfDone, Broken, SeatsDisagree, NotToml}
use Rattle.ng_num.specs.declared.fault.Fault.TheVariants.{MissingKey, UnknownKey, WrongType, OutOfLimits}
use Rattle.ng_num.specs.declared.fault.Fault.TheVariants.{TooManyTools, BadCommand, OutOfMemory}

abbrev pub text : Fault → List ℕ
text Unreadable = codes "E1 Unreadable"
text LineTooLong = codes "E2 LineTooLong"
text OutOfRange = codes "E3 OutOfRange"
text BadIndex = codes "E4 BadIndex"
text BadArithmetic = codes "E5 BadArithmetic"
text RepeatedLetter = codes "B1 RepeatedLetter"
text UnknownCode = codes "B2 UnknownCode"
text LeftOutCode = codes "B3 LeftOutCode"
text GroupTwice = codes "B4 GroupTwice"
text TooManyM = codes "B5 TooManyM"
text AxisTakenTwice = codes "B6 AxisTakenTwice"
text AxisUnused = codes "B7 AxisUnused"
text NoAxis = codes "B8 NoAxis"
text NothingToSet = codes "B9 NothingToSet"
text BadG53 = codes "B10 BadG53"
text RadiusArc = codes "B11 RadiusArc"
text UnusedWord = codes "B12 UnusedWord"
text Negative = codes "B13 Negative"
text BadSlot = codes "B14 BadSlot"
text BadL = codes "B15 BadL"
text BadSystem = codes "B16 BadSystem"
text NoDwell = codes "B17 NoDwell"
text NoH = codes "B18 NoH"
text CyclePlane = codes "B19 CyclePlane"
text NoEnd = codes "C1 NoEnd"
text NoCentre = codes "C2 NoCentre"
text RadiiDiffer = codes "C3 RadiiDiffer"
text ZeroRadius = codes "C4 ZeroRadius"
text CycleNoAxis = codes "Y1 NoAxis"
text NoZ = codes "Y2 NoZ"
text NoR = codes "Y3 NoR"
text RBelowZ = codes "Y4 RBelowZ"
text InverseTime = codes "Y5 InverseTime"
text NegativeP = codes "Y6 NegativeP"
text BadQ = codes "Y7 BadQ"
text SpindleStopped = codes "Y8 SpindleStopped"
text NoFeed = codes "X1 NoFeed"
text OutsideTravel = codes "X2 OutsideTravel"
text NoProgramEnd = codes "X3 NoProgramEnd"
text MissingPercent = codes "X4 MissingPercent"
text DeviceFailed = codes "J1 DeviceFailed"
text NotFormatted = codes "J2 NotFormatted"
text Damaged = codes "J3 Damaged"
text CountersUsed = codes "J4 CountersUsed"
text ProgramTooLong = codes "J5 ProgramTooLong"
text Busy = codes "K1 Busy"
text NoProgram = codes "K2 NoProgram"
text PlaceUnknown = codes "K3 PlaceUnknown"
text NothingHalfDone = codes "K4 NothingHalfDone"
text Broken = codes "K5 Broken"
text SeatsDisagree = codes "K6 SeatsDisagree"
text NotToml = codes "S1 NotToml"
text MissingKey = codes "S2 MissingKey"
text UnknownKey = codes "S3 UnknownKey"
text WrongType = codes "S4 WrongType"
text OutOfLimits = codes "S5 OutOfLimits"
text TooManyTools = codes "S6 TooManyTools"
text BadCommand = codes "U1 BadCommand"
text OutOfMemory = codes "M1 OutOfMemory"
