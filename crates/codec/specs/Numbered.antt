-- The number of each refusal ("Operations and their refusals" of document 01, and the requests).
use Rattle.std.specs.Prelude.{ℕ}
use Rattle.codec.specs.declared.refusal.Refusal.{Refusal}
use Rattle.codec.specs.declared.refusal.Refusal.TheVariants.{MapByte, SheetLength, CornerCount, PairBit, NoDiagonal, RepeatedPair, Crossing, Room, OutOfRange, TooManyCorners, Triangle, NoEar, LacksDiagonal, ChartForm, Bars, Strokes, Gaps, NoPart, Rows, Angles, ListLength, Kind, NumbersRoom, Lending}

abbrev pub number_of : Refusal → ℕ
number_of MapByte = 1
number_of SheetLength = 2
number_of CornerCount = 3
number_of PairBit = 4
number_of NoDiagonal = 5
number_of RepeatedPair = 6
number_of Crossing = 7
number_of Room = 8
number_of OutOfRange = 9
number_of TooManyCorners = 10
number_of Triangle = 11
number_of NoEar = 12
number_of LacksDiagonal = 13
number_of ChartForm = 14
number_of Bars = 15
number_of Strokes = 16
number_of Gaps = 17
number_of NoPart = 18
number_of Rows = 19
number_of Angles = 23
number_of ListLength = 32
number_of Kind = 33
number_of NumbersRoom = 34
number_of Lending = 35
