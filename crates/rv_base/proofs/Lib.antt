pub mod SettingNumbers
