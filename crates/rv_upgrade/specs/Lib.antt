-- why a record file has no upgrade, and the upgraded file
pub mod Upgrade
-- the laws of upgraded files
pub mod Laws
-- the last shard of a file
pub mod LastShard
