mod BothVersions
mod CountingLanes
mod LastRow
mod RecordTuples
mod SpelledBytes
mod UpgradedParts
mod UpgradedRecord
